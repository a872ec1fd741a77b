-- What a call is refused for, by an index that knows the store's chip. Assumes nothing.
use Rattle.std.specs.Prelude.{◌≡◌, ℕ, ◌≤◌, true, [], Ok, Err, Result}
use Rattle.flash.specs.Model.{View}
use Rattle.rules.specs.Refusals.{Store}
use Rattle.scan.specs.declared.indexes.Index.{Index}
use Rattle.scan.specs.declared.refusals.Refusal.{Refusal}
use Rattle.scan.specs.Indexes.{Knows}
use Rattle.scan.specs.Refusals.{told}

-- the chip of a store
abbrev pub view : Store → View
view st = record { n = st.n; p = st.p; on = st.power; blocks = st.flash.blocks }

-- the store runs, and the index knows its chip
pub record Runs (st : Store) (x : Index) : Type 0 where
  pub running : st.running ≡ true
  pub knows : Knows (view st) x

-- no refusal fits, which is 0; or the smallest that fits, which carries no values
abbrev pub Checked : ℕ → Result (Unit {0}) Refusal → Type 0
Checked k (Ok u) = k ≡ 0
Checked k (Err e) = (told e ≡ (k, [])) × (1 ≤ k)
