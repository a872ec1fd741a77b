-- The tests of the reading rule, each as the facts that it stands for. Assumes nothing.
use Rattle.std.proofs.Common.{◌≡◌, ℕ, ◌<◌, true, false, ◌⊎◌, List, arith}
use Rattle.std.proofs.lemmas.Bool.{and_parts, and_from, eqb-true, eq-eqb}
use Rattle.flash.specs.declared.chunks.Record.{Record}
use Rattle.rules.specs.Lists.{Among}
use Rattle.rules.specs.Records.{kind, object, is_data, is_header, is_cut, is_marker}
use Rattle.rules.specs.Reading.{hides, head_of, data_of, hidden, topped, replaced, outmarked, has_older, hides_some, present, wanted}
use Rattle.rules.specs.declared.kinds.Kind.{Kind}
use Rattle.rules.proofs.Lists.{any-true, any-from}

pub record Hides (h d : Record) : Type 0 where
  pub isdata : is_data (kind d) ≡ true
  pub same : object h ≡ object d
  pub after : d.tag.serial < h.tag.serial
  pub how : (is_marker (kind h) ≡ true) ⊎ ((is_cut (kind h) ≡ true) × (h.tag.third < d.tag.first))

pub hides-view : (h d : Record) → hides h d ≡ true → Hides h d
unfolding hides
hides-view h d e = search arith

pub hides-from : (h d : Record) → Hides h d → hides h d ≡ true
unfolding hides
hides-from h d v = grind arith

pub record HeadOf (o : ℕ) (r : Record) : Type 0 where
  pub of : object r ≡ o
  pub how : (is_header (kind r) ≡ true) ⊎ (is_marker (kind r) ≡ true)

pub head-view : (o : ℕ) (r : Record) → head_of o r ≡ true → HeadOf o r
unfolding head_of
head-view o r e = grind arith

pub head-from : (o : ℕ) (r : Record) → HeadOf o r → head_of o r ≡ true
unfolding head_of
head-from o r v = grind arith

pub record DataOf (o j : ℕ) (r : Record) : Type 0 where
  pub of : object r ≡ o
  pub isdata : is_data (kind r) ≡ true
  pub at : r.tag.first ≡ j

pub data-view : (o j : ℕ) (r : Record) → data_of o j r ≡ true → DataOf o j r
unfolding data_of
data-view o j r e = grind (arith, eqb-true, and_parts)

pub data-from : (o j : ℕ) (r : Record) → DataOf o j r → data_of o j r ≡ true
unfolding data_of
data-from o j r v = search (arith, and_from, eq-eqb)

-- the tests over all that stand
pub marker-no-header : (k : Kind) → is_marker k ≡ true → is_header k ≡ false
marker-no-header k e = grind arith

module _ (rs : List Record) (r : Record) where
  pub hidden-view : hidden rs r ≡ true → (h : Record) × Among h rs × Hides h r
  unfolding hidden
  hidden-view e = grind (arith, any-true, hides-view)

  pub hidden-from : (h : Record) → Among h rs → Hides h r → hidden rs r ≡ true
  unfolding hidden
  hidden-from h a v = grind (arith, any-from, hides-from)

  pub topped-view : topped rs r ≡ true → (s : Record) × Among s rs × HeadOf (object r) s × (r.tag.serial < s.tag.serial)
  unfolding topped
  topped-view e = grind (arith, any-true, head-view)

  pub topped-from : (s : Record) → Among s rs → HeadOf (object r) s → r.tag.serial < s.tag.serial → topped rs r ≡ true
  unfolding topped
  topped-from s a v l = grind (arith, any-from, head-from)

  pub replaced-view : replaced rs r ≡ true → (s : Record) × Among s rs × DataOf (object r) r.tag.first s × (r.tag.serial < s.tag.serial)
  unfolding replaced
  replaced-view e = grind (arith, any-true, data-view)

  pub replaced-from : (s : Record) → Among s rs → DataOf (object r) r.tag.first s → r.tag.serial < s.tag.serial → replaced rs r ≡ true
  unfolding replaced
  replaced-from s a v l = grind (arith, any-from, data-from)

  pub outmarked-view : outmarked rs r ≡ true → (s : Record) × Among s rs × (is_marker (kind s) ≡ true) × (object s ≡ object r) × (r.tag.serial < s.tag.serial)
  unfolding outmarked
  outmarked-view e = grind (arith, any-true)

  pub outmarked-from : (s : Record) → Among s rs → is_marker (kind s) ≡ true → object s ≡ object r → r.tag.serial < s.tag.serial → outmarked rs r ≡ true
  unfolding outmarked
  outmarked-from s a m o l = grind (arith, any-from)

  pub older-view : has_older rs r ≡ true → (s : Record) × Among s rs × (object s ≡ object r) × (s.tag.serial < r.tag.serial)
  unfolding has_older
  older-view e = grind (arith, any-true)

  pub older-from : (s : Record) → Among s rs → object s ≡ object r → s.tag.serial < r.tag.serial → has_older rs r ≡ true
  unfolding has_older
  older-from s a o l = grind (arith, any-from)

  -- what an unwanted record is, kind by kind
  module _ (idle : wanted rs r ≡ false) where
    pub idle-header : is_header (kind r) ≡ true → topped rs r ≡ true
    unfolding wanted
    idle-header h = grind arith

    pub idle-cut : is_cut (kind r) ≡ true → hides_some rs r ≡ false
    unfolding wanted
    idle-cut h = grind arith

    pub idle-marker : is_marker (kind r) ≡ true → (outmarked rs r ≡ true) ⊎ (has_older rs r ≡ false)
    unfolding wanted
    idle-marker h = grind arith

    pub idle-data : is_data (kind r) ≡ true → present rs (object r) ≡ true → (hidden rs r ≡ true) ⊎ (replaced rs r ≡ true)
    unfolding wanted
    idle-data h p = grind arith
