-- What a record newer than all others makes of the files: what the accepted call makes of them. Assumes nothing.
use Rattle.std.proofs.Common.{◌≡◌, ℕ, ◌<◌, ◌≤◌, max, Bool, true, false, cond, eqb, leb, ◌⊎◌, List, ◌∷◌, take, Some, None, Option, sym, refl, ap, ◌∙◌, arith}
use Rattle.flash.specs.declared.chunks.Record.{Record}
use Rattle.rules.specs.Lists.{Among, is_there}
use Rattle.rules.specs.Records.{kind, kind_by, object, is_data, is_header, is_marker}
use Rattle.rules.specs.Reading.{hidden, header, newest, chunk, highest_chunk, files, bytes_in, name_in, File}
use Rattle.rules.specs.Right.{fresh, with_part, shortened, renamed}
use Rattle.rules.specs.declared.kinds.Kind.{Kind}
use Rattle.rules.specs.declared.kinds.Kind.TheVariants.{Header as header_k, CutHeader as cut_k, Marker as marker_k}
use Rattle.rules.proofs.Lists.{any_none, newest-found}
use Rattle.rules.proofs.Views.{Hides, HeadOf, DataOf, hides-view, hides-from, head-view, head-from, data-view, data-from}
use Rattle.rules.proofs.Removal.{highest-most, highest-least, highest_same}

-- a data record's number is 1 to 1,000
number_by : (f : ℕ) → is_data (kind_by f) ≡ true → (1 ≤ f) × (f ≤ 1000)
unfolding kind_by
number_by f e = grind arith

pub data-number : (d : Record) → is_data (kind d) ≡ true → (1 ≤ d.tag.first) × (d.tag.first ≤ 1000)
unfolding kind
data-number d e = number_by d.tag.first e

data-no-head : (k : Kind) → is_data k ≡ true → (is_header k ≡ true) ⊎ (is_marker k ≡ true) → ⊥
data-no-head k e h = grind arith

-- files, by their parts
pub file-is : (rs : List Record) (o : ℕ) (h : Record) (nm : List ℕ) (l : ℕ) (p : ℕ → Option (List ℕ)) → header rs o ≡ Some h → name_in h.bytes ≡ nm → max h.tag.third (highest_chunk rs o) ≡ l
    → ((j : ℕ) → bytes_in (chunk rs o j) ≡ p j) → files rs o ≡ Some (record { name = nm; long = l; part = p })
unfolding files
file-is rs o h nm l p e n m c = grind arith

pub no-file : (rs : List Record) (o : ℕ) → header rs o ≡ None → files rs o ≡ None
unfolding files
no-file rs o e = grind arith

module _ (rs : List Record) (r : Record) (last : (s : Record) → Among s rs → s.tag.serial < r.tag.serial) where
  newest-new : (t : Record → Bool) → t r ≡ true → newest t (r ∷ rs) ≡ Some r
  newest-new t e = grind (arith, newest-found)

  newest-old : (t : Record → Bool) → t r ≡ false → newest t (r ∷ rs) ≡ newest t rs
  newest-old t e = grind arith

  header-new : (o : ℕ) → object r ≡ o → is_header (kind r) ≡ true → header (r ∷ rs) o ≡ Some r
  unfolding header
  header-new o e k = grind (arith, newest-new, head-from)

  header-none : (o : ℕ) → object r ≡ o → is_marker (kind r) ≡ true → header (r ∷ rs) o ≡ None
  unfolding header
  header-none o e k = grind (arith, newest-new, head-from)

  header-old : (o : ℕ) → (HeadOf o r → ⊥) → header (r ∷ rs) o ≡ header rs o
  unfolding header
  header-old o n = grind (arith, newest-old, head-view)

  chunk-old : (o j : ℕ) → (DataOf o j r → ⊥) → ((d : Record) → DataOf o j d → Hides r d → ⊥) → chunk (r ∷ rs) o j ≡ chunk rs o j
  unfolding chunk hidden
  chunk-old o j n h = grind (arith, newest-old, data-view, newest-found, hides-view)

  chunk-gone : (o j : ℕ) → (DataOf o j r → ⊥) → ((d : Record) → Among d rs → DataOf o j d → Hides r d) → chunk (r ∷ rs) o j ≡ None
  unfolding chunk hidden
  chunk-gone o j n h = grind (arith, newest-old, data-view, newest-found, hides-from)

  chunk-new : (o j : ℕ) → DataOf o j r → chunk (r ∷ rs) o j ≡ Some r
  unfolding chunk hidden
  chunk-new o j v = grind (arith, newest-new, data-from, any_none, hides-view)

  -- another object's file is as it was
  pub files-other : (o : ℕ) → (object r ≡ o → ⊥) → files (r ∷ rs) o ≡ files rs o
  unfolding files
  files-other o n = grind (arith, chunk-old, header-old, highest_same)

  -- what each kind of record makes of its own object's file
  module _ (o : ℕ) (of : object r ≡ o) where
    cut_above : kind r ≡ cut_k → (k : ℕ) → r.tag.third < k → chunk (r ∷ rs) o k ≡ None
    cut_above kd k l = grind (arith, chunk-gone)

    cut_below : kind r ≡ cut_k → (k : ℕ) → k ≤ r.tag.third → chunk (r ∷ rs) o k ≡ chunk rs o k
    cut_below kd k l = grind (arith, chunk-old)

    no_zero : kind r ≡ cut_k → chunk (r ∷ rs) o 0 ≡ None
    no_zero kd =
        chunk-gone o 0 (grind arith)
        (grind (arith, data-number))

    cut_highest : kind r ≡ cut_k → highest_chunk (r ∷ rs) o ≤ r.tag.third
    cut_highest kd = grind (arith, highest-least, cut_above)

    pub create-file : kind r ≡ cut_k → r.tag.third ≡ 0 → (f : Option File) → files (r ∷ rs) o ≡ fresh (name_in r.bytes) f
    create-file kd z f =
        file-is (r ∷ rs) o r (name_in r.bytes) 0 (λ j. None) (header-new o of (ap is_header kd)) refl (omega (arith, cut_highest kd)) parts
      where
        parts : (j : ℕ) → bytes_in (chunk (r ∷ rs) o j) ≡ None
        parts k = grind (arith, no_zero, cut_above)

    pub delete-file : kind r ≡ marker_k → files (r ∷ rs) o ≡ None
    delete-file kd = grind (arith, no-file, header-none)

    module _ (h : Record) (there : header rs o ≡ Some h) where
      pub was : files rs o ≡ Some (record { name = name_in h.bytes; long = max h.tag.third (highest_chunk rs o); part = λ j. bytes_in (chunk rs o j) })
      was = search (arith, file-is)

      pub cut-file : kind r ≡ cut_k → name_in r.bytes ≡ name_in h.bytes → files (r ∷ rs) o ≡ shortened r.tag.third (files rs o)
      cut-file kd b =
          file-is (r ∷ rs) o r (name_in h.bytes) r.tag.third (λ k. cond (leb k r.tag.third) (bytes_in (chunk rs o k)) None) (header-new o of (ap is_header kd)) b (omega (arith, cut_highest kd)) parts
          ∙ sym (ap (shortened r.tag.third) was)
        where
          parts : (k : ℕ) → bytes_in (chunk (r ∷ rs) o k) ≡ cond (leb k r.tag.third) (bytes_in (chunk rs o k)) None
          parts k = grind (arith, cut_above, cut_below)

      plain_chunk : kind r ≡ header_k → (k : ℕ) → chunk (r ∷ rs) o k ≡ chunk rs o k
      plain_chunk kd k = grind (arith, chunk-old)

      pub rename-file : kind r ≡ header_k → r.tag.third ≡ max h.tag.third (highest_chunk rs o) → files (r ∷ rs) o ≡ renamed (name_in r.bytes) (files rs o)
      rename-file kd l =
          file-is (r ∷ rs) o r (name_in r.bytes) (max h.tag.third (highest_chunk rs o)) (λ k. bytes_in (chunk rs o k)) (header-new o of (ap is_header kd)) refl
          (grind (arith, highest_same, plain_chunk)) (λ k. ap bytes_in (plain_chunk kd k))
          ∙ sym (ap (renamed (name_in r.bytes)) was)

      module _ (j : ℕ) (bs : List ℕ) (kd : is_data (kind r) ≡ true) (at : r.tag.first ≡ j) (fills : take r.tag.third r.bytes ≡ bs) where
        put_here : chunk (r ∷ rs) o j ≡ Some r
        put_here = grind (arith, chunk-new)

        put_else : (k : ℕ) → (k ≡ j → ⊥) → chunk (r ∷ rs) o k ≡ chunk rs o k
        put_else k n = grind (arith, chunk-old)

        put_highest : highest_chunk (r ∷ rs) o ≡ max (highest_chunk rs o) j
        put_highest =
            omega (
              arith,
              highest-most (r ∷ rs) o j (ap is_there put_here),
              highest-least (r ∷ rs) o (max (highest_chunk rs o) j)
                  (grind (arith, highest-most, put_else)),
              highest-least rs o (highest_chunk (r ∷ rs) o)
                  (grind (arith, highest-most, put_here, put_else)),
            )

        pub put-file : files (r ∷ rs) o ≡ with_part j bs (files rs o)
        put-file =
            file-is (r ∷ rs) o h (name_in h.bytes) (max (max h.tag.third (highest_chunk rs o)) j) (λ k. cond (eqb k j) (Some bs) (bytes_in (chunk rs o k)))
            (header-old o (λ v. data-no-head (kind r) kd v.how) ∙ there) refl (omega (arith, put_highest)) parts
            ∙ sym (ap (with_part j bs) was)
          where
            parts : (k : ℕ) → bytes_in (chunk (r ∷ rs) o k) ≡ cond (eqb k j) (Some bs) (bytes_in (chunk rs o k))
            parts k = grind (arith, put_here, put_else)
