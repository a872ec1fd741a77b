-- The chip that a scan is of. Assumes nothing.
use Rattle.flash.specs.declared.chips.Chip.{Ghosts}
use Rattle.flash.specs.Model.{State}
use Rattle.scan.specs.declared.tables.Scan.{Scan}

-- what the scan's chip means
abbrev pub chip_of : {C : Type 0} {chip : Ghosts C} → Scan C chip → State
chip_of {chip = c} s = c.model s.chip.now
