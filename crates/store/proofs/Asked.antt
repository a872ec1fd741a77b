-- A change of the code as the rules' call. Assumes nothing.
use Rattle.std.proofs.Common.{◌≡◌, Bool, true, List, vec_items}
use Rattle.flash.specs.declared.chunks.Record.{Record}
use Rattle.flash.specs.Blocks.{standing}
use Rattle.flash.specs.Model.{State, blocks_of, view_of}
use Rattle.rules.specs.Calls.{record_of}
use Rattle.rules.specs.Machine.{IsChange}
use Rattle.rules.specs.Refusals.{refusal}
use Rattle.scan.specs.declared.indexes.Index.{Index}
use Rattle.scan.specs.Indexes.{Knows}
use Rattle.store.specs.declared.change.Change.{Change}
use Rattle.store.specs.declared.change.Change.TheVariants.{Create, Put, Cut, Rename, Delete}
use Rattle.store.specs.Asked.{asked}
use Rattle.store.specs.Stores.{store_of}
use Rattle.store.specs.Running.{StandsSo, OpenPresent}
use Rattle.store.proofs.Adding.{Ready}
use Rattle.store.proofs.Checked.{change_runs}

is_change : (c : Change) → IsChange (asked c)
is_change (Create o name) = tt
is_change (Put o j bs) = tt
is_change (Cut o n) = tt
is_change (Rename o name) = tt
is_change (Delete o) = tt

-- a change that is not refused is ready with its record
pub ready : {s : State} {x : Index} {on : Bool} {held : List Bool} → (on ≡ true → Knows (view_of s) x) → (on ≡ true → ∥ StandsSo s x ∥₁) → (on ≡ true → OpenPresent s held)
    → (c : Change) (r : Record) → refusal (store_of s on held (vec_items x.standings)) (asked c) ≡ 0
    → (refusal (store_of s on held (vec_items x.standings)) (asked c) ≡ 0 → r ≡ record_of 2048 (standing (blocks_of s)) (asked c))
    → Ready s x on held (asked c) r
ready {s = s} {x = x} {on = on} {held = held} known stands present c r free made =
    let run = change_runs (store_of s on held (vec_items x.standings)) (asked c) (is_change c) free in
    record { running = run; knows = known run; stands = stands run; present = present run; change = is_change c; free = free; adds = made free }
