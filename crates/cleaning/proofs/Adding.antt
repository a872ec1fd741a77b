-- Adding a record: while there is no place for it, one cleans. Assumes nothing.
use Rattle.std.proofs.Common.{◌≡◌, ℕ, suc, ◌+◌, List, [], ◌∷◌, ◌++◌, get_or, Some, None, Ok, Err, Option, sym, refl, ap, subst, add-zero}
use Rattle.flash.specs.declared.chunks.Place.{Place}
use Rattle.flash.specs.declared.chunks.Record.{Record}
use Rattle.flash.specs.declared.faults.Fault.{Fault}
use Rattle.flash.specs.Model.{State, blocks_of}
use Rattle.rules.specs.declared.standings.Standing.TheVariants.{Closed as closed_s}
use Rattle.rules.specs.Places.{Flash, Act, adding, runs, clean, add_place, add_or, plan, counts}
use Rattle.rules.specs.Runs.{Takes, TakesAll}
use Rattle.scan.specs.declared.indexes.Index.{Index}
use Rattle.scan.specs.Indexes.{stands_in}
use Rattle.places.specs.Places.{place_told}
use Rattle.writing.specs.Writing.{flash_of, Tells, AllDone, BrokenAt}
use Rattle.cleaning.specs.declared.cleanings.Cleaned.{Cleaned}
use Rattle.cleaning.specs.Cleaning.{acts_to_add}
use Rattle.cleaning.specs.Once.{counts_of, CleanedOnce, OncePlayed}
use Rattle.cleaning.proofs.Playing.{Underway, nothing-yet, all-done, takes-now, breaks-now, goes-on}
use Rattle.cleaning.proofs.Spots.{not-closed}

-- a record is being added by these acts; one may clean k times yet
pub record AddedTo (s : State) (x : Index) (r : Record) (whole : List Act) (k a e : ℕ) (t : State) (y : Index) : Type 0 where
  pub on : Underway s x whole (plan k (flash_of t y) r) a e t y

pub begun : (s : State) (x : Index) (r : Record) (k a e : ℕ) → Tells s x → k ≡ 9 → a ≡ 0 → e ≡ 0 → AddedTo s x r (acts_to_add (flash_of s x) r) k a e s x
unfolding acts_to_add
begun s x r k a e t q i j =
    let h : Underway s x (plan 9 (flash_of s x) r) (plan k (flash_of s x) r) 0 0 s x = nothing-yet t (ap (λ (n : ℕ). plan n (flash_of s x) r) (sym q)) in
    record { on = rw (i, j) h }

pub ended : {s : State} {x : Index} {r : Record} {whole : List Act} {a e : ℕ} {t : State} {y : Index} → AddedTo s x r whole 0 a e t y → AllDone s x whole t y × (counts whole ≡ (a, e))
ended h = all-done h.on

module _ {s : State} {x : Index} {r : Record} {whole : List Act} {k a e : ℕ} {t : State} {y : Index} (takes : TakesAll s.n s.p (flash_of s x) whole) (h : AddedTo s x r whole (suc k) a e t y) where
  abbrev after-cleaning : List Act
  after-cleaning = plan k (runs (flash_of t y) (clean (flash_of t y))) r

  -- there is a place; what calls of `add_place` and `program` ensure
  module _ (q : Place) (place : place_told (Some q) ≡ add_place (flash_of t y)) where
    abbrev now : List Act
    now = adding q.block q.chunk r ∷ []

    last : plan (suc k) (flash_of t y) r ≡ now ++ []
    last = ap (λ (m : Option (ℕ × ℕ)). add_or r m (clean (flash_of t y) ++ after-cleaning)) (sym place)

    pub place-done : {u : State} {z : Index} → (Tells t y → Takes t.n t.p (blocks_of t) (adding q.block q.chunk r) → (get_or (stands_in y) q.block closed_s ≡ closed_s → ⊥) → AllDone t y (adding q.block q.chunk r ∷ []) u z)
        → AllDone s x whole u z × (counts whole ≡ (a + 1, e))
    place-done f = simp add-zero at (all-done (goes-on h.on now [] last (1, 0) (f h.on.all.tells (takes-now h.on now [] last takes).0 (not-closed t y q place)) refl))

    pub place-broken : {b : Fault} {u : State} {z : Index} → (Tells t y → Takes t.n t.p (blocks_of t) (adding q.block q.chunk r) → (get_or (stands_in y) q.block closed_s ≡ closed_s → ⊥) → BrokenAt t y (adding q.block q.chunk r ∷ []) b u z)
        → BrokenAt s x whole b u z
    place-broken f = breaks-now h.on now [] last (f h.on.all.tells (takes-now h.on now [] last takes).0 (not-closed t y q place))

  -- there is none; what a call of `clean_once` ensures
  module _ (place : None ≡ add_place (flash_of t y)) where
    first : plan (suc k) (flash_of t y) r ≡ clean (flash_of t y) ++ after-cleaning
    first = ap (λ (m : Option (ℕ × ℕ)). add_or r m (clean (flash_of t y) ++ after-cleaning)) (sym place)

    cleaned : {u : State} {z : Index} (m : Option Cleaned) → OncePlayed t y (Ok m) u z → AddedTo s x r whole k (a + (counts_of m).0) (e + (counts_of m).1) u z
    cleaned {u} {z} m f =
        let d : CleanedOnce t y (Ok m) u z = f h.on.all.tells (takes-now h.on (clean (flash_of t y)) after-cleaning first takes) in
        record {
          on = subst (λ (g : Flash). Underway s x whole (plan k g r) (a + (counts_of m).0) (e + (counts_of m).1) u z) (sym d.0.made)
              (goes-on h.on (clean (flash_of t y)) after-cleaning first (counts_of m) d.0 d.2);
        }

    pub one-cleaned : {u : State} {z : Index} (m : Option Cleaned) (w : Cleaned) → m ≡ Some w → OncePlayed t y (Ok m) u z → AddedTo s x r whole k (a + w.copies) (e + 1) u z
    one-cleaned {u} {z} m w q f = subst (λ (o : Option Cleaned). AddedTo s x r whole k (a + (counts_of o).0) (e + (counts_of o).1) u z) q (cleaned m f)

    pub none-cleaned : {u : State} {z : Index} (m : Option Cleaned) → m ≡ None → OncePlayed t y (Ok m) u z → AddedTo s x r whole k a e u z
    none-cleaned {u} {z} m q f = simp add-zero at (subst (λ (o : Option Cleaned). AddedTo s x r whole k (a + (counts_of o).0) (e + (counts_of o).1) u z) q (cleaned m f))

    pub cleaning-broken : {b : Fault} {u : State} {z : Index} → OncePlayed t y (Err b) u z → BrokenAt s x whole b u z
    cleaning-broken f = breaks-now h.on (clean (flash_of t y)) after-cleaning first (f h.on.all.tells (takes-now h.on (clean (flash_of t y)) after-cleaning first takes))
