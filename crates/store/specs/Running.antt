-- What holds of a running store beside what its index knows. Assumes nothing.
use Rattle.std.specs.Prelude.{◌≡◌, ℕ, Bool, true, List}
use Rattle.flash.specs.Blocks.{standing}
use Rattle.flash.specs.Model.{State, blocks_of}
use Rattle.rules.specs.Reading.{present}
use Rattle.rules.specs.Runs.{Stands}
use Rattle.scan.specs.declared.indexes.Index.{Index}
use Rattle.scan.specs.Indexes.{stands_in}
use Rattle.store.specs.Stores.{held_at}

-- the blocks stand as those of a running store
abbrev pub StandsSo : State → Index → Type 0
StandsSo s x = Stands s.n s.p (record { blocks = blocks_of s; stand = stands_in x })

-- every open file is present
abbrev pub OpenPresent : State → List Bool → Type 0
OpenPresent s held = (o : ℕ) → held_at held o ≡ true → present (standing (blocks_of s)) o ≡ true
