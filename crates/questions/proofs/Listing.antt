-- The rows of the files, by rising object number. Assumes nothing.
use Rattle.std.proofs.Common.{◌≡◌, ℕ, suc, ◌+◌, ◌-◌, ◌<◌, Bool, true, false, cond, List, [], ◌∷◌, ◌++◌, map, length, get_or, drop, set, Some, None, Option, sym, refl, ap, ◌∙◌, subst, add-one, arith}
use Rattle.std.specs.declared.ops.RangeInclusive.{RangeInclusive}
use Rattle.std.specs.Iterator.{Yields}
use Rattle.std.specs.List.{filter, cons_option, enumerate_from}
use Rattle.std.specs.Option.{option_map}
use Rattle.std.specs.Range.{range_inclusive_steps, range_inclusive_left, range_inclusive_len, range_inclusive_start, range_inclusive_end, range_inclusive_exhausted}
use Rattle.std.proofs.lemmas.List.{append_assoc, length-append, length-map, map-append, map-id}
use Rattle.std.proofs.lemmas.List.FromFn.{length-enumerate_from, get_or-enumerate_from}
use Rattle.std.proofs.Math.Seq.{drop-cons, set-append_seam}
use Rattle.std.proofs.lemmas.Iterator.{YieldsList}
use Rattle.std.proofs.lemmas.Iterator.Consumers.{YieldsList-from_shown, YieldsList-turn, YieldsList-end}
use Rattle.flash.specs.declared.chunks.Record.{Record}
use Rattle.rules.specs.declared.rows.Row.{Row}
use Rattle.rules.specs.Calls.{up_from, objects, row_of, rows_in, rows}
use Rattle.rules.specs.Lists.{is_there}
use Rattle.rules.specs.Reading.{File, Files, size, present, header, chunk, highest_chunk}
use Rattle.reading.specs.Sizes.{length_by, length_of, size_by, size_of}
use Rattle.questions.specs.Lists.{narrowed, row_by, table_rows}

-- what a range of numbers has left, and its steps
abbrev left : RangeInclusive ℕ → ℕ
left = range_inclusive_left (λ x y. y - x)

abbrev pub up_steps : RangeInclusive ℕ → Option ℕ → RangeInclusive ℕ → Type 0
up_steps = range_inclusive_steps (λ x y. y - x) (λ x y. y ≡ x + 1)

abbrev shown : RangeInclusive ℕ → List ℕ
shown s = up_from (range_inclusive_start s) (left s)

one-shown : (s : RangeInclusive ℕ) (x : ℕ) (t : RangeInclusive ℕ) → up_steps s (Some x) t → shown s ≡ x ∷ shown t
one-shown s x t h =
    let e : left s ≡ suc (left t) = omega (arith, h.1.1) in
    ap (up_from (range_inclusive_start s)) e ∙ ap {B = List ℕ} (λ n. n ∷ up_from (suc (range_inclusive_start s)) (left t)) (sym h.1.0) ∙ ap {B = List ℕ} (λ ns. x ∷ ns) (others (range_inclusive_exhausted t) refl)
  where
    others : (b : Bool) → range_inclusive_exhausted t ≡ b → up_from (suc (range_inclusive_start s)) (left t) ≡ up_from (range_inclusive_start t) (left t)
    others true e =
        let z : left t ≡ 0 = ap (range_inclusive_len (λ x y. y - x) (range_inclusive_start t) (range_inclusive_end t)) e in
        ap (up_from (suc (range_inclusive_start s))) z ∙ sym (ap (up_from (range_inclusive_start t)) z)
    others false e = ap (λ (n : ℕ). up_from n (left t)) (sym (h.1.2 e ∙ add-one (range_inclusive_start s)))

-- the object numbers, as a range gives them
pub objects_yielded : (s : RangeInclusive ℕ) → range_inclusive_start s ≡ 257 → range_inclusive_end s ≡ 511 → range_inclusive_exhausted s ≡ false → YieldsList up_steps (λ n. n) s objects
unfolding objects
objects_yielded s a b z =
    let e : shown s ≡ up_from 257 255 = λ i. up_from (a i) (range_inclusive_len (λ x y. y - x) (a i) (b i) (z i)) in
    subst (YieldsList up_steps (λ n. n) s) e (YieldsList-from_shown up_steps (λ n. n) shown (λ t u h. ap (λ (k : ℕ). length (up_from (range_inclusive_start t) k)) h.1.0) one-shown s)

-- the files are those that have a row
one-more : (part : ℕ → Option Record) (o : ℕ) (h : Option Record) (top : ℕ) (os : List ℕ) (ys : List Row) → length os ≡ length ys
    → length (cond (is_there h) (o ∷ os) os) ≡ length (cons_option (row_by o (length_by h top) (size_by part (length_by h top))) ys)
one-more part o None top os ys e = e
one-more part o (Some h) top os ys e = ap suc e

pub files_counted : (rs : List Record) (os : List ℕ) → length (filter (present rs) os) ≡ length (table_rows rs os)
unfolding present
files_counted rs [] = refl
files_counted rs (o ∷ os) = one-more (chunk rs o) o (header rs o) (highest_chunk rs o) (filter (present rs) os) (table_rows rs os) (files_counted rs os)

-- one row more, at its place
pub laid_one : (xs was : List Row) (ys : List (ℕ × Row)) (at : ℕ) (row : Row) → at ≡ length ys → at < length was → xs ≡ map (λ p. p.1) ys ++ drop (length ys) was
    → set xs at row ≡ map (λ p. p.1) (ys ++ (at, row) ∷ []) ++ drop (length (ys ++ (at, row) ∷ [])) was
laid_one xs was ys at row e h s =
    let n = length ys in
    let front : List Row = map (λ p. p.1) ys in
    rw s (rw e (rw (drop-cons was n row (omega (arith, e))) (
    ap (λ (k : ℕ). set (front ++ get_or was n row ∷ drop (suc n) was) k row) (sym (length-map ys (λ p. p.1)))
    ∙ set-append_seam front _ (drop (suc n) was) row ∙ sym (append_assoc front (row ∷ []) (drop (suc n) was))
    ∙ rw (map-append (λ p. p.1) ys ((n, row) ∷ [])) (rw (length-append ys ((n, row) ∷ [])) (rw add-one refl))
    )))

-- all rows, and those beyond
pub laid_all : (xs was all : List Row) (ys : List (ℕ × Row)) → map (λ p. p.1) ys ≡ all → xs ≡ map (λ p. p.1) ys ++ drop (length ys) was → xs ≡ all ++ drop (length all) was
laid_all xs was all ys e s = s ∙ ap (λ (zs : List Row). zs ++ drop (length ys) was) e ∙ ap (λ (k : ℕ). all ++ drop k was) (sym (length-map ys (λ p. p.1)) ∙ ap length e)

without-places : {X : Type 0} (n : ℕ) (xs : List X) → map (λ p. p.1) (enumerate_from n xs) ≡ xs
without-places n [] = refl
without-places n (x ∷ xs) = ap (λ ys. x ∷ ys) (without-places (n + 1) xs)

-- a loop over all rows with their places, which has yielded some
module _ {S : Type 0} {steps : S → Option (ℕ × Row) → S → Type 0} (s t u : S) (all : List Row) (xs : List (ℕ × Row)) (y : Yields steps s xs t) (r : Option (ℕ × Row)) (done : steps t r u) where
  pub row_turn : (x : ℕ × Row) → r ≡ Some x → YieldsList steps (λ p. (p.0, p.1)) s (enumerate_from 0 all) → (x.0 ≡ length xs) × (length xs < length all)
  row_turn x e l =
      let n = length xs in
      let h = YieldsList-turn l xs t y r u x e done in
      let k : n < length all = omega (arith, h.0, length-enumerate_from 0 all) in
      let z : 0 + n ≡ n = omega arith in
      (ap (λ (q : ℕ × Row). q.0) (h.1 ∙ get_or-enumerate_from 0 all n x k) ∙ z, k)

  pub rows_end : r ≡ None → YieldsList steps (λ p. (p.0, p.1)) s (enumerate_from 0 all) → map (λ p. p.1) xs ≡ all
  rows_end e l = ap {A = List (ℕ × Row)} (map (λ p. p.1)) (sym (map-id xs) ∙ (YieldsList-end l xs t y r u e done).0) ∙ without-places 0 all

-- the rows that the table tells are those of the files
abbrev plain_row : ℕ → Option ℕ → Option ℕ → Option Row
plain_row o None m = None
plain_row o (Some l) None = None
plain_row o (Some l) (Some n) = Some (record { object = o; length = l; size = n })

row-narrow : (o : ℕ) (l n : Option ℕ) → row_by o l n ≡ plain_row o l (option_map narrowed n)
row-narrow o None n = refl
row-narrow o (Some l) None = refl
row-narrow o (Some l) (Some n) = refl

row-cons : (o : ℕ) (m : Option File) (ys : List Row) → cons_option (plain_row o (option_map (λ y. y.long) m) (option_map size m)) ys ≡ row_of o m ++ ys
row-cons o None ys = refl
row-cons o (Some f) ys = refl

module _ (rs : List Record) (fs : Files) (l : (o : ℕ) → length_of rs o ≡ option_map (λ y. y.long) (fs o)) (n : (o : ℕ) → option_map narrowed (size_of rs o) ≡ option_map size (fs o)) where
  row-known : (o : ℕ) → row_by o (length_of rs o) (size_of rs o) ≡ plain_row o (option_map (λ y. y.long) (fs o)) (option_map size (fs o))
  row-known o =
      row-narrow o (length_of rs o) (size_of rs o)
      ∙ ap (λ (y : Option ℕ). plain_row o y (option_map narrowed (size_of rs o))) (l o)
      ∙ ap (plain_row o (option_map (λ y. y.long) (fs o))) (n o)

  rows_in_lem : (os : List ℕ) → table_rows rs os ≡ rows_in fs os
  rows_in_lem [] = refl
  rows_in_lem (o ∷ os) = rw (row-known o) (rw (rows_in_lem os) (row-cons o (fs o) (rows_in fs os)))

  pub rows-known : table_rows rs objects ≡ rows fs
  unfolding rows
  rows-known = rows_in_lem objects
