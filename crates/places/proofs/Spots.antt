-- Places, from what the standings and the rows of a block tell. Assumes nothing.
use Rattle.std.proofs.Common.{◌≡◌, ℕ, ◌<◌, vec_items, Some, None, Option, cond, nat_le, refl, sym, ap, ◌∙◌, arith}
use Rattle.rules.specs.declared.standings.Standing.TheVariants.{Blank as blank_s, Open as open_s}
use Rattle.rules.specs.Lists.{first_where, count, or_else}
use Rattle.rules.specs.Places.{Flash, is_blank_s, is_open_s, at_block, blank_in as blank_there, start_of, open_place, blank_place, add_place, copy_place}
use Rattle.scan.specs.declared.indexes.Index.{Index}
use Rattle.scan.specs.Indexes.{stands_in}
use Rattle.places.specs.Places.{Told, stands_as, is_blank_l, rows_of, chunk_in, open_in, blank_in, spare_in}
use Rattle.places.proofs.Cutting.{first-known}
use Rattle.places.proofs.Firsts.{found}
use Rattle.std.specs.List.{position}
use Rattle.std.proofs.lemmas.List.{length-take}
use Rattle.std.proofs.lemmas.List.Quantifiers.{position-Some}

module _ (f : Flash) (x : Index) (t : Told f x) where
  open-by : (m : Option ℕ) → m ≡ position (stands_as open_s) (stands_in x) → chunk_in x m ≡ blank_there f.blocks m
  open-by None e = refl
  open-by (Some b) e =
      let h : b < x.sizes.blocks = omega (arith, (position-Some (stands_as open_s) (stands_in x) b blank_s (sym e)).0, length-take x.sizes.blocks (vec_items x.standings)) in
      ap (at_block b) (found is_blank_l (rows_of x b) _ refl ∙ first-known f x t b h)

  open-known : open_in x ≡ open_place f
  unfolding open_in open_place
  open-known = open-by _ refl ∙ ap (blank_there f.blocks) (found (stands_as open_s) (stands_in x) _ refl ∙ ap (first_where is_open_s) t.stands)

  blank-known : blank_in x ≡ blank_place f
  unfolding blank_in blank_place
  blank-known = ap start_of (found (stands_as blank_s) (stands_in x) _ refl ∙ ap (first_where is_blank_s) t.stands)

  spare-known : spare_in x ≡ cond (nat_le 2 (count is_blank_s f.stand)) (blank_place f) None
  unfolding spare_in
  spare-known = ap (λ ss. cond (nat_le 2 (count is_blank_s ss)) (blank_in x) None) t.stands ∙ ap (λ m. cond (nat_le 2 (count is_blank_s f.stand)) m None) blank-known

  pub add_told : (r : Option (ℕ × ℕ)) → r ≡ or_else (open_in x) (spare_in x) → r ≡ add_place f
  unfolding add_place
  add_told r e = e ∙ ap (λ m. or_else m (spare_in x)) open-known ∙ ap (or_else (open_place f)) spare-known

  pub copy_told : (r : Option (ℕ × ℕ)) → r ≡ or_else (open_in x) (blank_in x) → r ≡ copy_place f
  unfolding copy_place
  copy_told r e = e ∙ ap (λ m. or_else m (blank_in x)) open-known ∙ ap (or_else (open_place f)) blank-known
