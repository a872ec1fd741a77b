-- What the type of a store says while it runs: what the law of whole runs asks of it. Assumes nothing.
use Rattle.std.proofs.Common.{◌≡◌, Bool, true, vec_items, sym, subst}
use Rattle.std.proofs.Math.Logic.{∥∥₁_map}
use Rattle.flash.specs.declared.chips.Chip.{Ghosts}
use Rattle.rules.specs.Runs.{Holds}
use Rattle.store.specs.declared.stores.Store.{Store as Kept}
use Rattle.store.specs.Stored.{stored}
use Rattle.store.specs.Stores.{store_of}
use Rattle.store.proofs.Changing.{holds}

pub holds_running : {C : Type 0} {chip : Ghosts C} (s : Kept C chip) → s.running ≡ true → ∥ Holds 2048 (stored s) ∥₁
holds_running {chip = c} s e =
    ∥∥₁_map (s.stands e)
    (λ z. subst (λ (b : Bool). Holds 2048 (store_of (c.model s.chip) b s.held (vec_items s.index.standings))) (sym e) (holds (c.model s.chip) s.index s.held (s.known e) (s.present e) z))
