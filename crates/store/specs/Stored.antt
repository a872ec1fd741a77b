-- A store of the code, as the rules have it. Assumes nothing.
use Rattle.std.specs.Prelude.{vec_items}
use Rattle.flash.specs.declared.chips.Chip.{Ghosts}
use Rattle.rules.specs.Refusals.{Store}
use Rattle.store.specs.declared.stores.Store.{Store as Kept}
use Rattle.store.specs.Stores.{store_of}

-- what the rules call the store: its chip by what the chip means, and the standings of the index
abbrev pub stored : {C : Type 0} {chip : Ghosts C} → Kept C chip → Store
stored {chip = c} s = store_of (c.model s.chip) s.running s.held (vec_items s.index.standings)
