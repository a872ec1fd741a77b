-- What a table that has the names of the files tells of them. Assumes nothing.
use Rattle.std.proofs.Common.{◌≡◌, ℕ, zero, suc, ◌+◌, ◌<◌, ◌≤◌, Bool, false, ◌&&◌, eqb, ◌≢◌, List, Some, None, Decides, Option, subst, sym, refl, ap, ◌∙◌, inl, inr, arith, rules}
use Rattle.std.proofs.lemmas.Slice.Eq.{compares_Decides}
use Rattle.std.proofs.lemmas.Bool.{cases_Bool, cases_eq, and_from, and_right, eq-eqb, ne_eqb, le-leb, cond-true, cond-false}
use Rattle.std.proofs.lemmas.Bool.Decides.{Decides-like, Decides-not, Decides-and, Decides-eqb, Decides-below_or, same_from_decides}
use Rattle.rules.specs.Calls.{up_from, objects, find_in, find}
use Rattle.rules.specs.Lists.{within, same_bytes}
use Rattle.rules.specs.Mounting.{shares_name, two_named}
use Rattle.rules.specs.Reading.{File, Files, any_up, any_object, named, name_taken}
use Rattle.names.specs.Names.{Entries, name_at, Empty, Noted, Lowest, Taken, Alike, name_if, Mirrors}
use Rattle.names.proofs.Taken.{taken-from, alike-from}

-- a test over all objects
object-decides : (t : ℕ → Bool) (P : ℕ → Type 0) → ((o : ℕ) → Decides (t o) (P o)) → Decides (any_object t) ((i : ℕ) × (i < 255) × P (257 + i))
unfolding any_object
object-decides t P each = Decides-below_or (λ i. t (257 + i)) (λ i. P (257 + i)) (any_up t) (λ i. each (257 + i)) refl (λ _. refl) 255

not-decided : (t : Bool) (P : Type 0) → Decides t P → (P → ⊥) → t ≡ false
not-decided t P d h = elim (cases_Bool t) [ inl e ↦ absurd (h (d.0 e)) | inr e ↦ e ]

same-decides : (xs ys : List ℕ) → Decides (same_bytes xs ys) (xs ≡ ys)
same-decides = compares_Decides same_bytes (search rules)

named-decides : (name : List ℕ) (f : Option File) → Decides (named name f) (name_if f ≡ Some name)
named-decides name None = (λ e. cc, λ e. cc)
named-decides name (Some f) = Decides-like _ (ap Some) (λ e. cc) (same-decides f.name name)

module _ (es : Entries) (fs : Files) (m : Mirrors es fs) where
  file-at : (i : ℕ) → i < 255 → name_at es (257 + i) ≡ name_if (fs (257 + i))
  file-at i l = m (257 + i) (omega arith) (omega arith)

  -- find
  found : (name : List ℕ) (n i : ℕ) (r : Option ℕ) → i + n ≡ 512 → 257 ≤ i → Lowest es name i r → r ≡ find_in fs name (up_from i n)
  found name zero i None s l h = refl
  found name zero i (Some j) s l h = absurd (omega (arith, h.0, h.1))
  found name (suc n) i None s l h =
      let u : i ≤ 511 = omega arith in
      found name n (suc i) None (omega arith) (omega arith) (λ k a b. h k (omega arith) b)
      ∙ sym (cond-false _ _ _ (not-decided _ _ (named-decides name (fs i)) (λ e. h i (omega arith) u (m i l u ∙ e))))
  found name (suc n) i (Some j) s l h =
      let u : i ≤ 511 = omega arith in
      let d = named-decides name (fs i) in
      elim (cases_eq i j) [
        | inl q ↦ ap Some (sym q) ∙ sym (cond-true _ _ _ (d.1 (sym (m i l u) ∙ ap (name_at es) q ∙ h.2)))
        | inr q ↦ (let v : i < j = omega (arith, h.0) in
            found name n (suc i) (Some j) (omega arith) (omega arith) (v, h.1, h.2, λ k a b. h.3 k (omega arith) b)
            ∙ sym (cond-false _ _ _ (not-decided _ _ d (λ e. h.3 i (omega arith) v (m i l u ∙ e)))))
      ]

  pub find-mirrored : (name : List ℕ) (r : Option ℕ) → Lowest es name 257 r → r ≡ find fs name
  unfolding find objects
  find-mirrored name r h = found name 255 257 r refl (omega arith) h

  -- a name taken
  taken-decides : (o : ℕ) (name : List ℕ) → Decides (name_taken fs o name) (Taken es o name)
  unfolding name_taken
  taken-decides o name =
      taken-from es _ o name (Decides-like _ (λ x. (x.0, x.1, x.2.0, file-at x.0 x.1 ∙ x.2.1)) (λ x. (x.0, x.1, (x.2, sym (file-at x.0 x.1) ∙ x.3)))
      (object-decides _ _ (λ k. Decides-and _ _ (Decides-not _ (Decides-eqb k o)) (named-decides name (fs k)))))

  pub taken-mirrored : (r : Bool) (o : ℕ) (name : List ℕ) → Decides r (Taken es o name) → r ≡ name_taken fs o name
  taken-mirrored r o name d = same_from_decides r _ d (taken-decides o name)

  -- two files of one name
  shares-decides : (o : ℕ) (f : Option File) → Decides (shares_name fs o f) ((name : List ℕ) × (name_if f ≡ Some name) × Taken es o name)
  shares-decides o None = (λ e. cc, λ x. let e = x.1 in cc)
  shares-decides o (Some f) =
      Decides-like _ (λ t. (f.name, refl, t)) (λ x. subst (Taken es o) (let e = x.1 in let q : x.0 ≡ f.name = cc in q) x.2) (taken-decides o f.name)

  pub alike-mirrored : (r : Bool) → Decides r (Alike es) → r ≡ two_named fs
  unfolding two_named
  alike-mirrored r d =
      same_from_decides r _ d (alike-from es _
      (Decides-like _ (λ x. (x.0, x.1, (x.2.0, file-at x.0 x.1 ∙ x.2.1, x.2.2))) (λ x. (x.0, x.1, (x.2.0, sym (file-at x.0 x.1) ∙ x.2.1, x.2.2)))
      (object-decides _ _ (λ o. shares-decides o (fs o)))))

-- a table that follows the files: it starts with none, and one object's name changes in both
pub empty-mirrors : (es : Entries) (fs : Files) → Empty es → ((o : ℕ) → 257 ≤ o → o ≤ 511 → fs o ≡ None) → Mirrors es fs
empty-mirrors es fs e h o l u = e o ∙ sym (ap name_if (h o l u))

pub noted-mirrors : (before after : Entries) (fs fs' : Files) (o : ℕ) (name : Option (List ℕ)) → Noted before o name after → Mirrors before fs
    → name_if (fs' o) ≡ name → ((k : ℕ) → k ≢ o → name_if (fs' k) ≡ name_if (fs k)) → Mirrors after fs'
noted-mirrors before after fs fs' o name n m e h k l u =
    n k ∙ (elim (cases_eq k o) [
      | inl q ↦ cond-true (within 257 511 o && eqb k o) name (name_at before k) (and_from (within 257 511 o) (eqb k o) (and_from _ _ (le-leb 257 o (omega arith)) (le-leb o 511 (omega arith))) (eq-eqb k o q))
          ∙ sym e ∙ ap (λ (j : ℕ). name_if (fs' j)) (sym q)
      | inr q ↦ cond-false (within 257 511 o && eqb k o) name (name_at before k) (and_right (within 257 511 o) (eqb k o) (ne_eqb k o q)) ∙ m k l u ∙ sym (h k q)
    ])
