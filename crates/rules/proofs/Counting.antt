-- The chunks that the files use are the records that are in a file. Assumes nothing.
use Rattle.std.proofs.Common.{◌≡◌, not, ℕ, zero, suc, ◌+◌, ◌<◌, ◌≤◌, Bool, true, false, cond, eqb, ◌⊎◌, List, [], ◌∷◌, ◌++◌, map, length, Some, None, Option, sym, refl, ap, ◌∙◌, subst, inl, inr, arith, length-append}
use lib.ListN.{length-map}
use Rattle.std.proofs.lemmas.Bool.{both_ways, cases_eq, cond-true, cond-false, ne_eqb}
use Rattle.flash.specs.declared.chunks.Record.{Record}
use Rattle.rules.specs.Lists.{Among, is_there, cons_if, keep}
use Rattle.rules.specs.Records.{kind, object, is_data, is_header, keeps_rules}
use Rattle.rules.specs.Reading.{header, chunk, present, in_file, files, File, once, used, Files, parts_up, used_of, used_up, used_by}
use Rattle.rules.specs.Laws.{Unique, UsedByFiles}
use Rattle.rules.proofs.Pigeons.{Apart}
use Rattle.rules.specs.declared.kinds.Kind.{Kind}
use Rattle.rules.proofs.Lists.{keep-among, keep-from}
use Rattle.rules.proofs.Pigeons.{pigeons}
use Rattle.rules.proofs.Blocks.{among-left, among-right, among_cases}
use Rattle.rules.proofs.Adding.{data-number}
use Rattle.rules.proofs.Cleaning.{once-among, from-once}
use Rattle.rules.proofs.Filed.{there-some, HeaderIn, DataIn, filed-view, header-filed, data-filed, header_of, chunk_of, header_at, chunk-at, FileAt, file-at, present-file, bytes-there}

abbrev Slot : Type 0
Slot = ℕ × ℕ

-- the places of the files: 0 for the header, j for chunk j
abbrev part_slots : (ℕ → Option (List ℕ)) → ℕ → ℕ → List Slot
part_slots part o zero = []
part_slots part o (suc k) = cons_if (is_there (part (suc k))) (o, suc k) (part_slots part o k)

abbrev file_slots : Option File → ℕ → ℕ → List Slot
file_slots None o m = []
file_slots (Some f) o m = (o, 0) ∷ part_slots f.part o m

abbrev slots_up : Files → ℕ → ℕ → List Slot
slots_up fs m zero = []
slots_up fs m (suc k) = file_slots (fs (257 + k)) (257 + k) m ++ slots_up fs m k

parts-long : (part : ℕ → Option (List ℕ)) (o k : ℕ) → length (part_slots part o k) ≡ parts_up part k
parts-long part o zero = refl
parts-long part o (suc k) = grind (arith, parts-long part o k)

one_more : (a b : ℕ) → a ≡ b → suc a ≡ 1 + b
one_more a b e = omega arith

file-long : (m : Option File) (o : ℕ) → length (file_slots m o 1000) ≡ used_of m
unfolding used_of
file-long None o = refl
file-long (Some f) o = one_more _ _ (parts-long f.part o 1000)

slots-long : (fs : Files) (k : ℕ) → length (slots_up fs 1000 k) ≡ used_up fs k
slots-long fs zero = refl
slots-long fs (suc k) = grind (arith, slots-long fs k, length-append, file_slots, file-long)

-- which places they are
record PartSlot (part : ℕ → Option (List ℕ)) (o m : ℕ) (q : Slot) : Type 0 where
  of : q.0 ≡ o
  low : 1 ≤ q.1
  high : q.1 ≤ m
  there : is_there (part q.1) ≡ true

parts_from : (part : ℕ → Option (List ℕ)) (o k : ℕ) (q : Slot) → Among q (part_slots part o k) → PartSlot part o k q
parts_from part o zero q a = absurd a
parts_from part o (suc k) q a = go (is_there (part (suc k))) refl (λ b. parts_from part o k q b) a
  where
    go : (b : Bool) → is_there (part (suc k)) ≡ b → (Among q (part_slots part o k) → PartSlot part o k q) → Among q (cons_if b (o, suc k) (part_slots part o k)) → PartSlot part o (suc k) q
    go k e ih b = grind arith

parts_in : (part : ℕ → Option (List ℕ)) (o k j : ℕ) → 1 ≤ j → j ≤ k → is_there (part j) ≡ true → Among (o, j) (part_slots part o k)
parts_in part o zero j l h t = absurd (omega arith)
parts_in part o (suc k) j l h t = elim (cases_eq j (suc k)) [ inl e ↦ now e | inr n ↦ later (is_there (part (suc k))) (parts_in part o k j l (omega arith) t) ]
  where
    now : j ≡ suc k → Among (o, j) (cons_if (is_there (part (suc k))) (o, suc k) (part_slots part o k))
    now e = grind arith

    later : (b : Bool) → Among (o, j) (part_slots part o k) → Among (o, j) (cons_if b (o, suc k) (part_slots part o k))
    later k a = grind arith

record FileSlot (m : Option File) (o k : ℕ) (q : Slot) : Type 0 where
  of : q.0 ≡ o
  file : File
  is : m ≡ Some file
  how : (q.1 ≡ 0) ⊎ PartSlot file.part o k q

file-from : (m : Option File) (o k : ℕ) (q : Slot) → Among q (file_slots m o k) → FileSlot m o k q
file-from m o k q a = grind (arith, parts_from)

record SlotUp (fs : Files) (m k : ℕ) (q : Slot) : Type 0 where
  low : 257 ≤ q.0
  high : q.0 < 257 + k
  at : FileSlot (fs q.0) q.0 m q

slots-from : (fs : Files) (m k : ℕ) (q : Slot) → Among q (slots_up fs m k) → SlotUp fs m k q
slots-from fs m zero q a = absurd a
slots-from fs m (suc k) q a =
    elim (among_cases (file_slots (fs (257 + k)) (257 + k) m) (slots_up fs m k) q a) [
      | inl b ↦ (let v = file-from (fs (257 + k)) (257 + k) m q b in let e = v.of in
          record { low = omega arith; high = omega arith; at = grind arith })
      | inr b ↦ (let v = slots-from fs m k q b in let h = v.high in record { low = v.low; high = omega arith; at = v.at })
    ]

file-in : (m : Option File) (f : File) (o k j : ℕ) → m ≡ Some f → (j ≡ 0) ⊎ ((1 ≤ j) × (j ≤ k) × (is_there (f.part j) ≡ true)) → Among (o, j) (file_slots m o k)
file-in m f o k j e h = grind (arith, parts_in)

slots-in : (fs : Files) (m k o j : ℕ) (f : File) → 257 ≤ o → o < 257 + k → fs o ≡ Some f → (j ≡ 0) ⊎ ((1 ≤ j) × (j ≤ m) × (is_there (f.part j) ≡ true)) → Among (o, j) (slots_up fs m k)
slots-in fs m zero o j f l h e w = absurd (omega arith)
slots-in fs m (suc k) o j f l h e w =
    elim (cases_eq o (257 + k)) [
      | inl x ↦ grind (arith, among-left, file_slots, slots_up, file-in)
      | inr n ↦ among-right (file_slots (fs (257 + k)) (257 + k) m) (slots_up fs m k) (o, j) (slots-in fs m k o j f l (omega arith) e w)
    ]

-- none twice
apart-append : {A : Type 0} (xs ys : List A) → Apart xs → Apart ys → ((x : A) → Among x xs → Among x ys → ⊥) → Apart (xs ++ ys)
apart-append [] ys a b d = b
apart-append (x ∷ xs) ys a b d =
    (λ c. elim (among_cases xs ys x c) [ inl e ↦ a.0 e | inr e ↦ d x (inl refl) e ], apart-append xs ys a.1 b (λ z e f. d z (inr e) f))

parts-apart : (part : ℕ → Option (List ℕ)) (o k : ℕ) → Apart (part_slots part o k)
parts-apart part o zero = tt
parts-apart part o (suc k) = go (is_there (part (suc k))) (parts-apart part o k)
  where
    go : (b : Bool) → Apart (part_slots part o k) → Apart (cons_if b (o, suc k) (part_slots part o k))
    go k a = grind (arith, parts_from)

file-apart : (m : Option File) (o k : ℕ) → Apart (file_slots m o k)
file-apart m o k = grind (arith, parts_from, parts-apart)

slots_apart : (fs : Files) (m k : ℕ) → Apart (slots_up fs m k)
slots_apart fs m zero = tt
slots_apart fs m (suc k) =
    apart-append (file_slots (fs (257 + k)) (257 + k) m) (slots_up fs m k) (file-apart (fs (257 + k)) (257 + k) m) (slots_apart fs m k)
    (λ q a b. let v = file-from (fs (257 + k)) (257 + k) m q a in let w = slots-from fs m k q b in omega arith)

keep_apart : (t : Record → Bool) (xs : List Record) → Apart xs → Apart (keep t xs)
keep_apart t [] a = tt
keep_apart t (x ∷ xs) a = grind (arith, keep_apart t xs a.1, keep-from)

once-apart : (xs : List Record) → Apart (once xs)
once-apart [] = tt
once-apart (x ∷ xs) = (
  λ a. both_ways (not (eqb x.tag.serial x.tag.serial)) (grind arith) (keep-from (λ s. not (eqb s.tag.serial x.tag.serial)) (once xs) x a).1,
  keep_apart (λ s. not (eqb s.tag.serial x.tag.serial)) (once xs) (once-apart xs),
)

-- an object number is 257 to 511
pub object-in : (r : Record) → keeps_rules r ≡ true → (257 ≤ object r) × (object r ≤ 511)
unfolding keeps_rules object
object-in r e = search arith

module _ (rs : List Record) (u : Unique rs) (rules : (r : Record) → Among r rs → keeps_rules r ≡ true) where
  abbrev filed : List Record
  filed = keep (in_file rs) (once rs)

  filed-from : (r : Record) → Among r filed → Among r rs × (in_file rs r ≡ true)
  filed-from r a = grind (arith, keep-from, from-once)

  filed-in : (r : Record) → Among r rs → in_file rs r ≡ true → Among r filed
  filed-in r a e = grind (arith, keep-among, once-among)

  -- a header's file, and a data record's
  file-there : (o : ℕ) → present rs o ≡ true → (f : File) × (files rs o ≡ Some f)
  file-there o e = grind (arith, present-file)

  -- the place of a record
  slot_of : Record → Slot
  slot_of r = (object r, cond (is_data (kind r)) r.tag.first 0)

  header-data : (k : Kind) → is_header k ≡ true → is_data k ≡ false
  header-data k e = grind arith

  -- what stands at a place
  at_slot : Slot → Option Record
  at_slot q = cond (eqb q.1 0) (header rs q.0) (chunk rs q.0 q.1)

  slot-back : (r : Record) → Among r rs → in_file rs r ≡ true → at_slot (slot_of r) ≡ Some r
  unfolding at_slot slot_of
  slot-back r a e = grind (arith, filed-view, header_of, data-number, chunk_of)

  slot-in : (r : Record) → Among r filed → Among (slot_of r) (slots_up (files rs) 1000 255)
  unfolding slot_of
  slot-in r a = elim (filed-view rs r x.1) [ inl v ↦ as_header v | inr v ↦ as_data v ]
    where
      x : Among r rs × (in_file rs r ≡ true)
      x = filed-from r a

      range : (257 ≤ object r) × (object r ≤ 511)
      range = object-in r (rules r x.0)

      as_header : HeaderIn rs r → Among (object r, cond (is_data (kind r)) r.tag.first 0) (slots_up (files rs) 1000 255)
      as_header v =
          let f = file-there (object r) (unfold present in ap is_there (header_of rs u r x.0 v)) in
          slots-in (files rs) 1000 255 (object r) _ f.0 range.0 (let l = range.1 in omega arith) f.1 (grind (arith, header-data))

      as_data : DataIn rs r → Among (object r, cond (is_data (kind r)) r.tag.first 0) (slots_up (files rs) 1000 255)
      as_data v =
          let f = file-there (object r) v.there in
          let n : cond (is_data (kind r)) r.tag.first 0 ≡ r.tag.first = cond-true (is_data (kind r)) r.tag.first 0 v.isdata in
          let d = data-number r v.isdata in
          slots-in (files rs) 1000 255 (object r) _ f.0 range.0 (let l = range.1 in omega arith) f.1
          (inr (
            let a : 1 ≤ r.tag.first = d.0 in omega (arith, n),
            (let b : r.tag.first ≤ 1000 = d.1 in omega (arith, n)),
            ap (λ (z : ℕ). is_there (f.0.part z)) n ∙ ap is_there ((file-at rs (object r) f.0 f.1).part' r.tag.first) ∙ bytes-there (chunk rs (object r) r.tag.first) ∙ ap is_there (chunk_of rs u r x.0 v),
          ))

  used-most : used rs ≤ length (slots_up (files rs) 1000 255)
  unfolding used
  used-most =
      pigeons slot_of filed (slots_up (files rs) 1000 255) (keep_apart (in_file rs) (once rs) (once-apart rs)) slot-in
      (grind (arith, filed-from, slot-back))

  -- back: each place of a file has its record
  record Holder (q : Slot) : Type 0 where
    rec : Record
    stands : Among rec rs
    infile : in_file rs rec ≡ true
    is : at_slot q ≡ Some rec
    place : slot_of rec ≡ q

  holder : (q : Slot) → Among q (slots_up (files rs) 1000 255) → Holder q
  unfolding at_slot slot_of
  holder q a = elim v.at.how [ inl z ↦ as_header z | inr w ↦ as_data w ]
    where
      v : SlotUp (files rs) 1000 255 q
      v = slots-from (files rs) 1000 255 q a

      fa : FileAt rs q.0 v.at.file
      fa = file-at rs q.0 v.at.file v.at.is

      as_header : q.1 ≡ 0 → Holder q
      as_header z =
          let h = header_at rs q.0 fa.head fa.header' in
          record {
            rec = fa.head;
            stands = h.stands;
            infile = header-filed rs fa.head h.filed;
            is = grind (arith, fa);
            place = λ i. (h.of i, (cond-false (is_data (kind fa.head)) fa.head.tag.first 0 (header-data (kind fa.head) h.filed.isheader) ∙ sym z) i);
          }

      as_data : PartSlot v.at.file.part q.0 1000 q → Holder q
      as_data w =
          let d = there-some (chunk rs q.0 q.1) (sym (bytes-there (chunk rs q.0 q.1)) ∙ ap is_there (sym (fa.part' q.1)) ∙ w.there) in
          let c = chunk-at rs q.0 q.1 d.0 d.1 in
          record {
            rec = d.0;
            stands = c.stands;
            infile = data-filed rs d.0 (record { isdata = c.data'.isdata; there = ap (present rs) c.data'.of ∙ present-file rs q.0 ∙ ap is_there v.at.is; bare = c.bare; last = c.last });
            is = cond-false (eqb q.1 0) _ _ (ne_eqb _ _ (λ z. omega arith)) ∙ d.1;
            place = λ i. (c.data'.of i, (cond-true (is_data (kind d.0)) d.0.tag.first 0 c.data'.isdata ∙ c.data'.at) i);
          }

  map-among : (xs : List Record) (x : Record) → Among x xs → Among (Some x) (map Some xs)
  map-among [] x a = a
  map-among (y ∷ ys) x (inl e) = inl (ap Some e)
  map-among (y ∷ ys) x (inr b) = inr (map-among ys x b)

  used-least : length (slots_up (files rs) 1000 255) ≤ used rs
  unfolding used
  used-least =
      omega (
        arith,
        length-map {B = Option Record} filed Some,
        pigeons at_slot (slots_up (files rs) 1000 255) (map Some filed) (slots_apart (files rs) 1000 255)
            (λ q a. let h = holder q a in subst (λ (z : Option Record). Among z (map Some filed)) (sym h.is) (grind (arith, map-among, filed, filed-in)))
            (λ q q' a a' e. let h = holder q a in let h' = holder q' a' in cc),
      )

between : (a b c : ℕ) → a ≤ b → b ≤ a → b ≡ c → c ≡ a
between a b c l h e = omega arith

pub used-by-files : UsedByFiles
unfolding used_by
used-by-files rs u rules = between _ _ _ (used-most rs u rules) (used-least rs u rules) (slots-long (files rs) 255)
