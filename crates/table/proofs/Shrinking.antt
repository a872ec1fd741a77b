-- Where only what is not wanted has gone, the files use no more, and nothing is newly wanted. Assumes nothing.
use Rattle.std.proofs.Common.{◌≡◌, ◌<◌, ◌≤◌, Bool, true, false, not, ◌||◌, eqb, ◌⊎◌, List, [], ◌∷◌, Some, None, Option, sym, refl, ap, ◌∙◌, inl, inr, arith}
use Rattle.std.proofs.lemmas.Bool.{both_ways, cases_Bool, and_from, not-true, not_from_false, not_from_true, eq-eqb}
use Rattle.flash.specs.declared.chunks.Record.{Record}
use Rattle.rules.specs.declared.kinds.Kind.{Kind}
use Rattle.rules.specs.declared.kinds.Kind.TheVariants.{Data as data_k, Header as header_k, CutHeader as cut_k, Marker as marker_k, Other as other_k}
use Rattle.rules.specs.Lists.{Among, keep, cons_if}
use Rattle.rules.specs.Records.{kind, object, is_header, is_marker}
use Rattle.rules.specs.Reading.{newest, head_of, topped, outmarked, hides_some, once, used, in_file_by, in_file, wanted_by, wanted}
use Rattle.rules.specs.Laws.{Shrunk, Unique}
use Rattle.rules.proofs.Pigeons.{Apart, pigeons}
use Rattle.rules.proofs.Lists.{newest-found, keep-among, keep-from, Newest, Found}
use Rattle.rules.proofs.Views.{HeadOf, head-view, head-from, topped-view, topped-from, outmarked-view, older-from}
use Rattle.rules.proofs.Shrinking.{shrunk-keeps}
use Rattle.rules.proofs.Cleaning.{once-among, from-once}

-- where only what is not wanted has gone, the files use no more, and nothing is newly wanted
abbrev pub UsedDoesNotGrow : Type 0
UsedDoesNotGrow = (rs rs' : List Record) → Unique rs → Shrunk rs rs'
    → (used rs' ≤ used rs) × ((r : Record) → Among r rs' → wanted rs' r ≡ true → wanted rs r ≡ true)

-- no record twice
pub keep_apart : (t : Record → Bool) (xs : List Record) → Apart xs → Apart (keep t xs)
keep_apart t [] a = tt
keep_apart t (x ∷ xs) a = go (t x) (keep_apart t xs a.1)
  where
    go : (b : Bool) → Apart (keep t xs) → Apart (cons_if b x (keep t xs))
    go true h = (λ c. a.0 (keep-from t xs x c).0, h)
    go false h = h

pub once-apart : (xs : List Record) → Apart (once xs)
once-apart [] = tt
once-apart (x ∷ xs) = (
  λ a. both_ways (not (eqb x.tag.serial x.tag.serial)) (not_from_true _ (eq-eqb x.tag.serial x.tag.serial refl)) (keep-from (λ s. not (eqb s.tag.serial x.tag.serial)) (once xs) x a).1,
  keep_apart (λ s. not (eqb s.tag.serial x.tag.serial)) (once xs) (once-apart xs),
)

-- the newest header or marker of an object is wanted while an older record of it stands
module _ (rs : List Record) (n r : Record) (w : Newest (head_of (object r)) rs n) (a : Among r rs) (l : r.tag.serial < n.tag.serial) where
  head : HeadOf (object r) n
  head = head-view (object r) n w.passes

  untopped : not (topped rs n) ≡ true
  untopped =
      elim (cases_Bool (topped rs n)) [
        | inl t ↦ (let x = topped-view rs n t in absurd (omega (arith, x.3, w.most x.0 x.1 (head-from (object r) x.0 (record { of = x.2.of ∙ head.of; how = x.2.how })))))
        | inr f ↦ not_from_false _ f
      ]

  unmarked : not (outmarked rs n) ≡ true
  unmarked =
      elim (cases_Bool (outmarked rs n)) [
        | inl t ↦ (let x = outmarked-view rs n t in absurd (omega (arith, x.4, w.most x.0 x.1 (head-from (object r) x.0 (record { of = x.3 ∙ head.of; how = inr x.2 })))))
        | inr f ↦ not_from_false _ f
      ]

  head-wanted : wanted rs n ≡ true
  unfolding wanted
  head-wanted = go (kind n) head.how
    where
      go : (k : Kind) → (is_header k ≡ true) ⊎ (is_marker k ≡ true) → wanted_by rs n k ≡ true
      go data_k h = elim h [ inl e ↦ absurd (both_ways false refl e) | inr e ↦ absurd (both_ways false refl e) ]
      go header_k h = untopped
      go cut_k h = ap (λ (b : Bool). b || hides_some rs n) untopped
      go marker_k h = and_from _ _ unmarked (older-from rs n r a (sym head.of) l)
      go other_k h = elim h [ inl e ↦ absurd (both_ways false refl e) | inr e ↦ absurd (both_ways false refl e) ]

module _ (rs rs' : List Record) (q : Unique rs) (w : Shrunk rs rs') where
  -- so nothing is newly a file's
  topped-still : (r : Record) → Among r rs' → topped rs r ≡ true → topped rs' r ≡ true
  topped-still r a e = go (newest (head_of (object r)) rs) (newest-found (head_of (object r)) rs)
    where
      x : (s : Record) × Among s rs × HeadOf (object r) s × (r.tag.serial < s.tag.serial)
      x = topped-view rs r e

      passes : head_of (object r) x.0 ≡ true
      passes = head-from (object r) x.0 x.2

      go : (m : Option Record) → Found (head_of (object r)) rs m → topped rs' r ≡ true
      go None f = absurd (f x.0 x.1 passes)
      go (Some n) f =
          let l : r.tag.serial < n.tag.serial = omega (arith, x.3, f.most x.0 x.1 passes) in
          topped-from rs' r n (w.kept n f.stands (head-wanted rs n r f (w.from r a) l)) (head-view (object r) n f.passes) l

  filed : (r : Record) → Among r rs' → in_file rs' r ≡ true → in_file rs r ≡ true
  unfolding in_file wanted
  filed r a = go (kind r) ((shrunk-keeps rs rs' q w).asked r a)
    where
      go : (k : Kind) → (wanted_by rs' r k ≡ true → wanted_by rs r k ≡ true) → in_file_by rs' r k ≡ true → in_file_by rs r k ≡ true
      go data_k f e = f e
      go header_k f e = f e
      go cut_k f e =
          elim (cases_Bool (topped rs r)) [
            | inl t ↦ absurd (both_ways (topped rs' r) (not-true _ e) (topped-still r a t))
            | inr g ↦ not_from_false _ g
          ]
      go marker_k f e = e
      go other_k f e = e

  used-less : used rs' ≤ used rs
  unfolding used
  used-less =
      pigeons (λ (r : Record). r) (keep (in_file rs') (once rs')) (keep (in_file rs) (once rs))
      (keep_apart (in_file rs') (once rs') (once-apart rs'))
      (λ r a.
      let h = keep-from (in_file rs') (once rs') r a in
      let b : Among r rs' = from-once rs' r h.0 in
      keep-among (in_file rs) (once rs) r (once-among rs q r (w.from r b)) (filed r b h.1))
      (λ x x' a a' e. e)

pub used-does-not-grow : UsedDoesNotGrow
used-does-not-grow rs rs' q w = (used-less rs rs' q w, (shrunk-keeps rs rs' q w).asked)
