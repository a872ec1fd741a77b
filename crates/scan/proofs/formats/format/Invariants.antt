use Rattle.flash.specs.Model.{started}
use Rattle.scan.specs.Formats.{ErasedTo}
use Rattle.scan.proofs.formats.format.Given as goal

abbrev pub invariant-loop-block : goal.invariant-loop-block
invariant-loop-block g l = ErasedTo (started (g.C.Chip.model l.fn.chip)) l.block (g.C.Chip.model l.chip)
