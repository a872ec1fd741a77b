-- A record that is not wanted can go, with all its copies: the files stay, and what else is not wanted stays so. Assumes nothing.
use Rattle.std.proofs.Common.{◌≡◌, ℕ, ◌<◌, ◌≤◌, true, false, not, eqb, ◌⊎◌, List, Some, None, Option, sym, refl, ap, inl, inr, arith}
use Rattle.flash.specs.declared.chunks.Record.{Record}
use Rattle.rules.specs.Lists.{keep, Among, is_there}
use Rattle.rules.specs.Records.{kind, object, is_data, is_marker}
use Rattle.rules.specs.Reading.{hides, hidden, header, header_only, head_of, data_of, newest, chunk, unhidden, number_there, highest_chunk, files, present, topped, replaced, outmarked, has_older, hides_some, wanted_by, wanted}
use Rattle.rules.specs.Laws.{Unique}
use Rattle.rules.specs.declared.kinds.Kind.{Kind}
use Rattle.rules.proofs.Lists.{keep-among, keep-from, any-from, any_false, any-true, any_same, newest-found, found_none, found_some, largest-least, largest-most, Newest, Found}
use Rattle.rules.proofs.Views.{Hides, HeadOf, DataOf, hides-view, hides-from, head-view, head-from, data-view, data-from, marker-no-header, hidden-view, hidden-from, topped-view, topped-from, replaced-view, replaced-from, outmarked-view, outmarked-from, older-view, older-from, idle-header, idle-cut, idle-marker, idle-data}

-- all but the records with the serial of u
abbrev pub without : List Record → Record → List Record
without rs u = keep (λ s. not (eqb s.tag.serial u.tag.serial)) rs

-- the files stay, and nothing is newly wanted
pub record Keeps (rs rs' : List Record) : Type 0 where
  pub same : (o : ℕ) → files rs o ≡ files rs' o
  pub asked : (r : Record) → Among r rs' → wanted rs' r ≡ true → wanted rs r ≡ true

-- rs' has the records of rs but those with the serial of u
pub record Without (rs : List Record) (u : Record) (rs' : List Record) : Type 0 where
  pub stay : (r : Record) → Among r rs → (r.tag.serial ≡ u.tag.serial → ⊥) → Among r rs'
  pub from : (r : Record) → Among r rs' → Among r rs
  pub gone : (r : Record) → Among r rs' → r.tag.serial ≡ u.tag.serial → ⊥

-- the highest chunk goes by which chunks are there
pub chunk-there : (rs : List Record) (o j : ℕ) → is_there (chunk rs o j) ≡ true → (d : Record) × Among d rs × DataOf o j d × (chunk rs o j ≡ Some d)
unfolding chunk
chunk-there rs o j e = grind (arith, newest-found, data-view)

counts : (rs : List Record) (o j : ℕ) (d : Record) → DataOf o j d → is_there (chunk rs o j) ≡ true → number_there rs o d ≡ j
unfolding number_there
counts rs o j d v e = grind arith

pub highest-most : (rs : List Record) (o j : ℕ) → is_there (chunk rs o j) ≡ true → j ≤ highest_chunk rs o
unfolding highest_chunk
highest-most rs o j e = grind (arith, chunk-there, counts, largest-most)

pub highest-least : (rs : List Record) (o k : ℕ) → ((j : ℕ) → is_there (chunk rs o j) ≡ true → j ≤ k) → highest_chunk rs o ≤ k
unfolding highest_chunk number_there
highest-least rs o k h = grind (arith, largest-least)

pub highest_same : (rs rs' : List Record) (o : ℕ) → ((j : ℕ) → chunk rs o j ≡ chunk rs' o j) → highest_chunk rs o ≡ highest_chunk rs' o
highest_same rs rs' o h = grind (arith, highest-least, highest-most)

module _ (rs rs' : List Record) (u : Record) (q : Unique rs) (here : Among u rs) (idle : wanted rs u ≡ false) (w : Without rs u rs') where
  -- what stands beside u either has another serial, and stays, or is u
  split : (r : Record) → Among r rs → Among r rs' ⊎ (r ≡ u)
  split r a = grind arith

  newer_stays : (r : Record) → Among r rs → u.tag.serial < r.tag.serial → Among r rs'
  newer_stays r a l = grind arith

  -- a marker that is not wanted has a newer one above it, as soon as something is below it
  new_marker : is_marker (kind u) ≡ true → (d : Record) → Among d rs → object d ≡ object u → d.tag.serial < u.tag.serial
      → (m : Record) × Among m rs' × (is_marker (kind m) ≡ true) × (object m ≡ object u) × (u.tag.serial < m.tag.serial)
  new_marker k d a o l = grind (arith, idle-marker rs u idle, outmarked-view rs u, older-from rs u d a o l, newer_stays)

  -- a head that is not wanted has a newer one above it, as soon as something is below it
  new_head : HeadOf (object u) u → (d : Record) → Among d rs → object d ≡ object u → d.tag.serial < u.tag.serial
      → (s : Record) × Among s rs' × HeadOf (object u) s × (u.tag.serial < s.tag.serial)
  new_head v d a o l = grind (arith, topped-view rs u, idle-header rs u idle, new_marker, newer_stays)

  -- the newest header of an object
  module _ (o : ℕ) where
    head_gone : Newest (head_of o) rs u → header_only (Some u) ≡ header rs' o
    unfolding header
    head_gone n =
        let v : HeadOf o u = head-view o u n.passes in
        let low : (s : Record) → Among s rs → HeadOf o s → s.tag.serial ≤ u.tag.serial = λ s a h. n.most s a (head-from o s h) in
        elim v.how [
          | inl k ↦
              (let x = topped-view rs u (idle-header rs u idle k) in
              absurd (let f : x.0.tag.serial ≤ u.tag.serial = low x.0 x.1 (grind arith) in omega arith))
          | inr k ↦
              (grind (arith, marker-no-header, found_none, newest-found, head-view, new_marker))
        ]

    pub header-kept : header rs o ≡ header rs' o
    unfolding header
    header-kept = go (newest (head_of o) rs) (newest-found (head_of o) rs)
      where
        go : (m : Option Record) → Found (head_of o) rs m → header_only m ≡ header rs' o
        go None n = grind (arith, newest-found)
        go (Some r) n =
            elim (split r n.stands) [
              | inl a ↦ grind (arith, found_some, newest-found)
              | inr p ↦ grind (arith, head_gone)
            ]

    pub present-kept : present rs o ≡ present rs' o
    unfolding present
    present-kept = ap is_there header-kept

  -- what is hidden
  hidden_still : (d : Record) → Among d rs → Hides u d → hidden rs' d ≡ true
  unfolding hides_some
  hidden_still d a v =
      elim v.how [
        | inl k ↦ (grind (arith, new_marker, hidden-from))
        | inr k ↦ absurd (any_false (hides u) rs d (idle-cut rs u idle k.0) a (hides-from u d v))
      ]

  pub hidden-kept : (d : Record) → Among d rs → hidden rs d ≡ hidden rs' d
  unfolding hidden
  hidden-kept d a = grind (arith, any_same, split, any-from, hidden_still, hides-view)

  -- an older record of the same chunk is hidden by what hides u
  hidden_below : (e : Record) → Among e rs → DataOf (object u) u.tag.first e → e.tag.serial ≤ u.tag.serial → hidden rs u ≡ true → hidden rs e ≡ true
  hidden_below e a v l hid = grind (arith, hidden-view, hidden-from)

  -- the chunks of a present file
  module _ (o : ℕ) (there : present rs o ≡ true) where
    chunk_gone : (j : ℕ) → Newest (data_of o j) rs u → hidden rs u ≡ true → chunk rs' o j ≡ None
    unfolding chunk
    chunk_gone j n hid = grind (arith, newest-found, data-view, hidden_below, hidden-kept)

    pub chunk_kept : (j : ℕ) → chunk rs o j ≡ chunk rs' o j
    unfolding chunk
    chunk_kept j = go (newest (data_of o j) rs) (newest-found (data_of o j) rs)
      where
        gone : Newest (data_of o j) rs u → unhidden rs (Some u) ≡ chunk rs' o j
        gone n = grind (arith, data-view, idle-data, chunk_gone, replaced-view, data-from)

        go : (m : Option Record) → Found (data_of o j) rs m → unhidden rs m ≡ chunk rs' o j
        go None n = sym (grind (arith, found_none, newest-found))
        go (Some d) n =
            elim (split d n.stands) [
              | inl a ↦ grind (arith, hidden-kept, found_some, newest-found)
              | inr p ↦ grind (arith, gone)
            ]

  pub files-kept : (o : ℕ) → files rs o ≡ files rs' o
  unfolding files present
  files-kept o = grind (arith, header-kept, chunk_kept, highest_same)

  -- what else is not wanted stays so
  module _ (v : Record) (stays : Among v rs') where
    was : Among v rs
    was = w.from v stays

    replaced-still : is_data (kind v) ≡ true → present rs (object v) ≡ true → replaced rs v ≡ true → (replaced rs' v ≡ true) ⊎ (hidden rs v ≡ true)
    unfolding was
    replaced-still k there e = search (arith, replaced-view, split, replaced-from, idle-data, hidden_below, was)

    topped-still : topped rs v ≡ true → topped rs' v ≡ true
    topped-still e = grind (arith, topped-view, split, topped-from, new_head)

    outmarked-still : outmarked rs v ≡ true → outmarked rs' v ≡ true
    outmarked-still e = grind (arith, outmarked-view, split, outmarked-from, new_marker)

    older-was : has_older rs' v ≡ true → has_older rs v ≡ true
    older-was e = grind (arith, older-view, older-from)

    hides-was : hides_some rs' v ≡ true → hides_some rs v ≡ true
    unfolding hides_some
    hides-was e = grind (arith, any-true, any-from)

    -- a test that fails after fails before, where it would have stayed
    un_data : is_data (kind v) ≡ true → present rs (object v) ≡ true → not (hidden rs v) ≡ true → not (replaced rs' v) ≡ true → not (replaced rs v) ≡ true
    un_data k there h e = grind (arith, replaced-still)

    wanted_was : (k : Kind) → kind v ≡ k → wanted_by rs' v k ≡ true → wanted_by rs v k ≡ true
    wanted_was k i e = grind (arith, present-kept, hidden-kept, un_data, topped-still, hides-was, outmarked-still, older-was)

    pub wanted-was : wanted rs' v ≡ true → wanted rs v ≡ true
    unfolding wanted
    wanted-was e = wanted_was (kind v) refl e

-- the list without the records of one serial
pub without-keep : (rs : List Record) (u : Record) → Without rs u (without rs u)
without-keep rs u = grind (arith, keep-among, keep-from)

-- one record that is not wanted may go
pub unwanted-can-go : (rs : List Record) (u : Record) → Unique rs → Among u rs → wanted rs u ≡ false → Keeps rs (without rs u)
unwanted-can-go rs u q a e =
    let w = without-keep rs u in
    record { same = files-kept rs (without rs u) u q a e w; asked = grind (arith, wanted-was, without) }
