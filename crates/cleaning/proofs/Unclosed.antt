-- A place for a record lies in a block that is not closed; so a closed block stays as it is while records are copied. Assumes nothing.
use Rattle.std.proofs.Common.{◌≡◌, ℕ, ◌<◌, Bool, true, false, cond, leb, [], Some, None, Option, length, get_or, sym, refl, ap, ◌∙◌, subst, get_or-set_other}
use Rattle.std.proofs.lemmas.Bool.{both_ways}
use Rattle.flash.specs.declared.chunks.Record.{Record}
use Rattle.rules.specs.declared.standings.Standing.{Standing}
use Rattle.rules.specs.declared.standings.Standing.TheVariants.{Blank as blank_s, Closed as closed_s}
use Rattle.rules.specs.Lists.{first_where, count, or_else}
use Rattle.rules.specs.Records.{is_blank}
use Rattle.rules.specs.Places.{Flash, is_blank_s, is_open_s, at_block, blank_in, start_of, open_place, blank_place, add_place, copy_place, copy_at, runs, programmed}
use Rattle.rules.proofs.Cleaning.{found_at}

-- a place, if there is one, lies in a block that there is, and that is not closed
abbrev pub Unclosed : Flash → Option (ℕ × ℕ) → Type 0
Unclosed f None = Unit {0}
Unclosed f (Some q) = (q.0 < length f.stand) × ((d : Standing) → get_or f.stand q.0 d ≡ closed_s → ⊥)

module _ (f : Flash) where
  stands-so : (t : Standing → Bool) → t closed_s ≡ false → (b : ℕ) → first_where t f.stand ≡ Some b → (c : ℕ) → Unclosed f (Some (b, c))
  stands-so t shut b e c = (let h = found_at t f.stand b e in (h.0, λ d k. both_ways false refl (sym shut ∙ ap t (sym k) ∙ h.1 d)))

  open-unclosed : Unclosed f (open_place f)
  unfolding open_place
  open-unclosed = go (first_where is_open_s f.stand) refl
    where
      at : (b : ℕ) → first_where is_open_s f.stand ≡ Some b → (m : Option ℕ) → Unclosed f (at_block b m)
      at b e None = tt
      at b e (Some c) = stands-so is_open_s refl b e c

      go : (m : Option ℕ) → first_where is_open_s f.stand ≡ m → Unclosed f (blank_in f.blocks m)
      go None e = tt
      go (Some b) e = at b e (first_where is_blank (get_or f.blocks b []))

  blank-unclosed : Unclosed f (blank_place f)
  unfolding blank_place
  blank-unclosed = go (first_where is_blank_s f.stand) refl
    where
      go : (m : Option ℕ) → first_where is_blank_s f.stand ≡ m → Unclosed f (start_of m)
      go None e = tt
      go (Some b) e = stands-so is_blank_s refl b e 0

  either : (m k : Option (ℕ × ℕ)) → Unclosed f m → Unclosed f k → Unclosed f (or_else m k)
  either None k h g = g
  either (Some q) k h g = h

  pub copy-unclosed : Unclosed f (copy_place f)
  unfolding copy_place
  copy-unclosed = either (open_place f) (blank_place f) open-unclosed blank-unclosed

  pub add-unclosed : Unclosed f (add_place f)
  unfolding add_place
  add-unclosed = either (open_place f) _ open-unclosed (if-two (leb 2 (count is_blank_s f.stand)))
    where
      if-two : (b : Bool) → Unclosed f (cond b (blank_place f) None)
      if-two true = blank-unclosed
      if-two false = tt

-- block v is as it was, and still closed
pub record Keeps (v : ℕ) (f g : Flash) : Type 0 where
  pub block : get_or g.blocks v [] ≡ get_or f.blocks v []
  pub closed : get_or g.stand v blank_s ≡ closed_s

pub copy_keeps : (v : ℕ) (f : Flash) (r : Record) → get_or f.stand v blank_s ≡ closed_s → Keeps v f (runs f (copy_at r (copy_place f)))
unfolding programmed
copy_keeps v f r cl = go (copy_place f) (copy-unclosed f)
  where
    go : (m : Option (ℕ × ℕ)) → Unclosed f m → Keeps v f (runs f (copy_at r m))
    go None h = record { block = refl; closed = cl }
    go (Some q) h =
        let apart : v ≡ q.0 → ⊥ = λ e. h.1 blank_s (subst (λ (z : ℕ). get_or f.stand z blank_s ≡ closed_s) e cl) in
        record { block = get_or-set_other f.blocks q.0 v _ [] apart; closed = get_or-set_other f.stand q.0 v _ blank_s apart ∙ cl }
