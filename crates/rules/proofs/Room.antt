-- Blocks full of wanted records hold nothing but what the files use. Assumes nothing.
use Rattle.std.proofs.Common.{◌≡◌, ℕ, zero, suc, ◌+◌, ◌*◌, ◌<◌, ◌≤◌, Bool, true, false, not, eqb, ◌⊎◌, List, [], ◌∷◌, ◌++◌, length, get_or, set, sym, refl, ap, inl, inr, arith, length-append}
use lib.ListN.{get_or-eq_default}
use Rattle.std.proofs.lemmas.Bool.{both_ways, cases_eq, cases_lt, and_parts, or_cases, not-true, eq-eqb}
use Rattle.flash.specs.declared.chunks.Record.{Record}
use Rattle.rules.specs.Lists.{Among, any, keep}
use Rattle.rules.specs.Records.{kind, object, is_data, is_marker}
use Rattle.rules.specs.Reading.{once, used, in_file, in_file_by, wanted, wanted_by, hides_some, hidden, topped, outmarked, has_older, present}
use Rattle.rules.specs.Places.{load, load_list, makes_load}
use Rattle.rules.specs.Laws.{SomeBlockIsLight}
use Rattle.flash.specs.declared.chunks.Chunk.{Chunk}
use Rattle.flash.specs.Blocks.{records_of, standing}
use Rattle.rules.specs.declared.kinds.Kind.{Kind}
use Rattle.rules.specs.declared.kinds.Kind.TheVariants.{Data as data_k, Header as header_k, CutHeader as cut_k, Marker as marker_k, Other as other_k}
use Rattle.rules.proofs.Lists.{any-true, any_false}
use Rattle.rules.proofs.Views.{hides-view, hidden-from, topped-from, outmarked-from, older-view}
use Rattle.rules.proofs.Blocks.{among_cases, among-right}

-- how much a filter keeps
module _ {A : Type 0} (t : A → Bool) where
  pub keep-short : (xs : List A) → length (keep t xs) ≤ length xs
  keep-short [] = omega arith
  keep-short (x ∷ xs) = grind (arith, keep-short xs)

  pub keep-full : (xs : List A) → length xs ≤ length (keep t xs) → (x : A) → Among x xs → t x ≡ true
  keep-full [] l x a = absurd a
  keep-full (y ∷ ys) l x a = grind (arith, keep-full ys, keep-short)

  pub keep_all : (xs : List A) → ((x : A) → Among x xs → t x ≡ true) → keep t xs ≡ xs
  keep_all [] f = refl
  keep_all (y ∷ ys) f = grind (arith, keep_all ys (λ x a. f x (inr a)))

-- no serial twice
abbrev pub Distinct : List Record → Type 0
Distinct [] = Unit {0}
Distinct (x ∷ xs) = ((s : Record) → Among s xs → s.tag.serial ≡ x.tag.serial → ⊥) × Distinct xs

pub once-distinct : (xs : List Record) → Distinct xs → once xs ≡ xs
once-distinct [] d = refl
once-distinct (x ∷ xs) d = grind (arith, once-distinct xs d.1, keep_all)

pub once-short : (xs : List Record) → length (once xs) ≤ length xs
once-short [] = omega arith
once-short (x ∷ xs) = grind (arith, once-short xs, keep-short)

pub distinct-once : (xs : List Record) → length xs ≤ length (once xs) → Distinct xs
distinct-once [] l = tt
distinct-once (x ∷ xs) l =
    let t : Record → Bool = λ s. not (eqb s.tag.serial x.tag.serial) in
    let a : length (keep t (once xs)) ≤ length (once xs) = keep-short t (once xs) in
    let b : length (once xs) ≤ length xs = once-short xs in
    let d : Distinct xs = distinct-once xs (omega arith) in (grind (arith, keep-full, once-distinct))

pub distinct_append : (xs ys : List Record) → Distinct xs → Distinct ys → ((x : Record) → Among x xs → (y : Record) → Among y ys → y.tag.serial ≡ x.tag.serial → ⊥) → Distinct (xs ++ ys)
distinct_append [] ys d e f = e
distinct_append (x ∷ xs) ys d e f =
    (λ s a p. elim (among_cases xs ys s a) [ inl b ↦ d.0 s b p | inr b ↦ f x (inl refl) s b p ], distinct_append xs ys d.1 e (λ z a. f z (inr a)))

pub distinct-empty : (xs : List Record) → ((x : Record) → Among x xs → ⊥) → Distinct xs
distinct-empty [] f = tt
distinct-empty (x ∷ xs) f = absurd (f x (inl refl))

pub standing-distinct : (bs : List (List Chunk)) → ((i : ℕ) → Distinct (records_of (get_or bs i [])))
    → ((i : ℕ) (r s : Record) → Among r (records_of (get_or bs i [])) → Among s (standing (set bs i [])) → s.tag.serial ≡ r.tag.serial → ⊥) → Distinct (standing bs)
standing-distinct [] d l = tt
standing-distinct (x ∷ bs) d l =
    distinct_append (records_of x) (standing bs) (d 0)
    (standing-distinct bs (λ i. d (suc i)) (λ i r s a b. l (suc i) r s a (grind (arith, among-right))))
    (λ r a s b. l 0 r s a b)

pub recs-short : (cs : List Chunk) → length (records_of cs) ≤ length cs
recs-short [] = omega arith
recs-short (c ∷ cs) = grind (arith, recs-short cs)

pub full-length : (p : ℕ) (bs : List (List Chunk)) → ((i : ℕ) → i < length bs → length (records_of (get_or bs i [])) ≡ p) → length bs * p ≤ length (standing bs)
full-length p [] h = omega arith
full-length p (x ∷ bs) h =
    omega (arith, length-append (records_of x) (standing bs), h 0 (omega arith), full-length p bs (λ i l. h (suc i) (omega arith)))

pub one_less : (p : ℕ) (bs : List (List Chunk)) (k : ℕ) → ((i : ℕ) → i < length bs → (i ≡ k → ⊥) → length (records_of (get_or bs i [])) ≡ p) → length bs * p ≤ length (standing bs) + p
one_less p [] k h = omega arith
one_less p (x ∷ bs) zero h =
    omega (arith, length-append (records_of x) (standing bs), full-length p bs (λ i l. h (suc i) (omega arith) (λ e. omega arith)))
one_less p (x ∷ bs) (suc k) h =
    omega (arith, length-append (records_of x) (standing bs), h 0 (omega arith) (λ e. omega arith), one_less p bs k (λ i l n. h (suc i) (omega arith) (λ e. n (omega arith))))

-- where all that stands is wanted, all of it is a file's
module _ (rs : List Record) (all : (r : Record) → Among r rs → wanted rs r ≡ true) where
  pub by : (r : Record) → Among r rs → (k : Kind) → kind r ≡ k → wanted_by rs r k ≡ true
  unfolding wanted
  by r a k e = grind arith

  pub data_by : (k : Kind) → is_data k ≡ true → k ≡ data_k
  data_by k e = grind arith

  -- no data record is hidden
  pub bare : (d : Record) → Among d rs → is_data (kind d) ≡ true → hidden rs d ≡ true → ⊥
  bare d a k h =
      let w = and_parts (present rs (object d)) _ (by d a data_k (data_by (kind d) k)) in
      let v = and_parts (not (hidden rs d)) _ w.1 in
      both_ways (hidden rs d) (not-true (hidden rs d) v.0) h

  pub hides_none : (r : Record) → Among r rs → hides_some rs r ≡ true → ⊥
  unfolding hides_some
  hides_none r a e = grind (arith, any-true, hides-view, bare, hidden-from)

  -- nothing of its object is older than a marker
  pub below_marker : (m s : Record) → Among m rs → Among s rs → is_marker (kind m) ≡ true → object s ≡ object m → s.tag.serial < m.tag.serial → (k : Kind) → kind s ≡ k → ⊥
  below_marker m s a b km o l data_k e = search (arith, bare, hidden-from)
  below_marker m s a b km o l header_k e = both_ways (topped rs s) (not-true (topped rs s) (by s b header_k e)) (grind (arith, topped-from))
  below_marker m s a b km o l cut_k e =
      elim (or_cases (not (topped rs s)) (hides_some rs s) (by s b cut_k e)) [
        | inl x ↦ grind (arith, topped-from)
        | inr x ↦ hides_none s b x
      ]
  below_marker m s a b km o l marker_k e =
      both_ways (outmarked rs s) (not-true (outmarked rs s) (and_parts (not (outmarked rs s)) (has_older rs s) (by s b marker_k e)).0) (outmarked-from rs s m a km (sym o) l)
  below_marker m s a b km o l other_k e = both_ways false refl (by s b other_k e)

  pub in_file-by : (r : Record) → Among r rs → (k : Kind) → kind r ≡ k → in_file_by rs r k ≡ true
  in_file-by r a data_k e = by r a data_k e
  in_file-by r a header_k e = by r a header_k e
  in_file-by r a cut_k e = elim (or_cases (not (topped rs r)) (hides_some rs r) (by r a cut_k e)) [ inl x ↦ x | inr x ↦ absurd (hides_none r a x) ]
  in_file-by r a marker_k e =
      let x = older-view rs r (and_parts (not (outmarked rs r)) (has_older rs r) (by r a marker_k e)).1 in
      absurd (below_marker r x.0 a x.1 (ap is_marker e) x.2 x.3 (kind x.0) refl)
  in_file-by r a other_k e = absurd (both_ways false refl (by r a other_k e))

  pub all-in-file : (r : Record) → Among r rs → in_file rs r ≡ true
  unfolding in_file
  all-in-file r a = in_file-by r a (kind r) refl

-- a block whose load is all its chunks
pub record FullOf (bs : List (List Chunk)) (i p : ℕ) : Type 0 where
  pub long : length (records_of (get_or bs i [])) ≡ p
  pub apart : Distinct (records_of (get_or bs i []))
  pub makes : (r : Record) → Among r (records_of (get_or bs i [])) → makes_load (standing bs) (standing (set bs i [])) r ≡ true

pub full-load : (bs : List (List Chunk)) (i p : ℕ) → length (get_or bs i []) ≤ p → p ≤ load bs i → FullOf bs i p
unfolding load load_list
full-load bs i p s l = grind (arith, keep-short, recs-short, distinct-once, keep-full, once-distinct)

module _ (bs : List (List Chunk)) (k p : ℕ) (bare-k : (r : Record) → Among r (records_of (get_or bs k [])) → ⊥) (short : (i : ℕ) → length (get_or bs i []) ≤ p)
    (heavy : (i : ℕ) → i < length bs → (i ≡ k → ⊥) → p ≤ load bs i) where
  -- a block is bare or full
  pub bare_or_full : (i : ℕ) → ((r : Record) → Among r (records_of (get_or bs i [])) → ⊥) ⊎ FullOf bs i p
  bare_or_full i =
      elim (cases_eq i k) [
        | inl e ↦ inl (λ r a. bare-k r (grind arith))
        | inr n ↦ elim (cases_lt i (length bs)) [
          | inl l ↦ inr (full-load bs i p (short i) (heavy i l n))
          | inr g ↦ grind (arith, get_or-eq_default)
        ]
      ]

  pub makes_it : (i : ℕ) (r : Record) → Among r (records_of (get_or bs i [])) → (wanted (standing bs) r ≡ true) × (any (λ s. eqb s.tag.serial r.tag.serial) (standing (set bs i [])) ≡ false)
  unfolding makes_load
  makes_it i r a =
      elim (bare_or_full i) [
        | inl f ↦ absurd (f r a)
        | inr f ↦ (grind arith)
      ]

  pub somewhere : (cs : List (List Chunk)) (r : Record) → Among r (standing cs) → (i : ℕ) × Among r (records_of (get_or cs i []))
  somewhere [] r a = absurd a
  somewhere (x ∷ cs) r a =
      elim (among_cases (records_of x) (standing cs) r a) [
        | inl b ↦ (0, b)
        | inr b ↦ (let y : (i : ℕ) × Among r (records_of (get_or cs i [])) = somewhere cs r b in (suc y.0, y.1))
      ]

  pub all_wanted : (r : Record) → Among r (standing bs) → wanted (standing bs) r ≡ true
  all_wanted r a = grind (arith, somewhere, makes_it)

  pub all_apart : Distinct (standing bs)
  all_apart =
      standing-distinct bs
      (λ i. elim (bare_or_full i) [ inl f ↦ grind (arith, distinct-empty) | inr f ↦ f.apart ])
      (λ i r s a b e. any_false (λ z. eqb z.tag.serial r.tag.serial) (standing (set bs i [])) s (makes_it i r a).1 b (eq-eqb _ _ e))

  pub all_used : used (standing bs) ≡ length (standing bs)
  unfolding used
  all_used = grind (arith, once-distinct, all_apart, keep_all, all-in-file, all_wanted)

  pub room : length bs * p ≤ used (standing bs) + p
  room =
      omega (arith, all_used, one_less p bs k (λ i l n. (full-load bs i p (short i) (heavy i l n)).long))

pub some-block-is-light : SomeBlockIsLight
some-block-is-light bs k p bare-k short l heavy = omega (arith, room bs k p bare-k short heavy)
