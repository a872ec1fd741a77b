-- A record programmed at the place for it, as an index tells the place. Assumes nothing.
use Rattle.std.proofs.Common.{◌≡◌, ℕ, List, [], ◌∷◌, get_or, Some, None, Ok, Option, sym, refl, ◌∙◌, subst, arith}
use Rattle.flash.specs.declared.chunks.Place.{Place}
use Rattle.flash.specs.declared.chunks.Record.{Record}
use Rattle.flash.specs.declared.faults.Fault.{Fault}
use Rattle.flash.specs.Model.{State, blocks_of}
use Rattle.flash.proofs.Views.{blocks-count, block-length}
use Rattle.rules.specs.declared.standings.Standing.TheVariants.{Closed as closed_s}
use Rattle.rules.specs.Places.{Act, copying, copy_at, copy_place, add_place}
use Rattle.rules.specs.Runs.{Takes, TakesAll}
use Rattle.scan.specs.declared.indexes.Index.{Index}
use Rattle.scan.specs.Indexes.{stands_in}
use Rattle.places.specs.Places.{Told, place_told}
use Rattle.writing.specs.Writing.{flash_of, Tells, AllDone, BrokenAt}
use Rattle.cleaning.specs.Steps.{Counted}
use Rattle.cleaning.proofs.Playing.{none-done}
use Rattle.cleaning.proofs.Unclosed.{Unclosed, copy-unclosed, add-unclosed}

-- the place to add at lies in a block that is not closed
pub not-closed : (s : State) (x : Index) (q : Place) → place_told (Some q) ≡ add_place (flash_of s x) → get_or (stands_in x) q.block closed_s ≡ closed_s → ⊥
not-closed s x q e = (subst (Unclosed (flash_of s x)) (sym e) (add-unclosed (flash_of s x))).1 closed_s

module _ (s : State) (x : Index) (t : Tells s x) where
  pub told : Told (flash_of s x) x
  told = record {
    blocks_long = blocks-count s ∙ sym t.blocks;
    block_long = λ b h. block-length s b (let e = t.blocks in omega arith) ∙ sym t.chunks;
    mirror = t.mirror;
    stands = refl;
  }

  -- no place for a copy
  pub copy-none : (r : Record) → None ≡ copy_place (flash_of s x) → Counted s x (copy_at r (copy_place (flash_of s x))) 0 (Ok 0) s x
  copy-none r e = subst (λ (m : Option (ℕ × ℕ)). Counted s x (copy_at r m) 0 (Ok 0) s x) e (none-done t, refl)

  -- a place for it; what a call of `program` ensures of a record that is r
  module _ (q : Place) (e : place_told (Some q) ≡ copy_place (flash_of s x)) (r r' : Record) (same : r' ≡ r) (takes : TakesAll s.n s.p (flash_of s x) (copy_at r (copy_place (flash_of s x)))) where
    copy-played : (D : List Act → Type 0)
        → (Tells s x → Takes s.n s.p (blocks_of s) (copying q.block q.chunk r') → (get_or (stands_in x) q.block closed_s ≡ closed_s → ⊥) → D (copying q.block q.chunk r' ∷ [])) → D (copy_at r (copy_place (flash_of s x)))
    copy-played D h =
        subst (λ (m : Option (ℕ × ℕ)). D (copy_at r m)) e
        (subst (λ (k : Record). D (copying q.block q.chunk k ∷ [])) same
        (h t (subst (λ (m : Option (ℕ × ℕ)). TakesAll s.n s.p (flash_of s x) (copy_at r m)) (sym e) takes).0
        ((subst (Unclosed (flash_of s x)) (sym e) (copy-unclosed (flash_of s x))).1 closed_s)))

    pub copy-done : (u : State) (y : Index)
        → (Tells s x → Takes s.n s.p (blocks_of s) (copying q.block q.chunk r') → (get_or (stands_in x) q.block closed_s ≡ closed_s → ⊥) → AllDone s x (copying q.block q.chunk r' ∷ []) u y)
        → Counted s x (copy_at r (copy_place (flash_of s x))) 0 (Ok 1) u y
    copy-done u y h = copy-played (λ acts. Counted s x acts 0 (Ok 1) u y) (λ a b c. (h a b c, refl))

    pub copy-broken : (f : Fault) (u : State) (y : Index)
        → (Tells s x → Takes s.n s.p (blocks_of s) (copying q.block q.chunk r') → (get_or (stands_in x) q.block closed_s ≡ closed_s → ⊥) → BrokenAt s x (copying q.block q.chunk r' ∷ []) f u y)
        → BrokenAt s x (copy_at r (copy_place (flash_of s x))) f u y
    copy-broken f u y h = copy-played (λ acts. BrokenAt s x acts f u y) h
