-- Mount accepts contents exactly when they are good. Assumes nothing.
use Rattle.std.proofs.Common.{◌≡◌, ℕ, zero, suc, ◌+◌, ◌<◌, ◌≤◌, max, Bool, true, false, cond, not, ◌&&◌, eqb, ltb, List, [], ◌∷◌, length, get_or, Some, None, Option, sym, refl, ap, ◌∙◌, subst, inl, inr, arith}
use Rattle.std.proofs.lemmas.Bool.{both_ways, cases_eq, and_parts, and_cases, and_right, or_cases, not-false, not_from_true, eqb-true, ltb-false, cond-false, le-ltb}
use Rattle.flash.specs.declared.chunks.Record.{Record}
use Rattle.rules.specs.Lists.{Among, any, or_else, same_bytes}
use Rattle.rules.specs.Records.{keeps_rules}
use Rattle.rules.specs.Reading.{Files, named, name_taken, header, highest_chunk, chunk, files, file_of, bytes_in, File, name_in, used_by}
use Rattle.rules.specs.Places.{load}
use Rattle.rules.specs.Mounting.{blank_block, sizes_fit, Placed, placed_in, placed, same_record, unlike, first_placed, first_clash, two_named, shares_name, limit, some_loadless, no_way_on, Fault, plain_if, placed_fault, verdict}
use Rattle.rules.specs.Laws.{Unique}
use Rattle.rules.specs.Runs.{Shaped}
use Rattle.flash.specs.declared.chunks.Chunk.{Chunk}
use Rattle.flash.specs.declared.chunks.Chunk.TheVariants.{Blank, Damaged, Holds}
use Rattle.flash.specs.Blocks.{records_of, standing}
use Rattle.rules.proofs.Lists.{any-true, any_false, any_none}
use Rattle.rules.proofs.Blocks.{among-left, among-right, among_cases}
use Rattle.rules.proofs.Mounts.{blank-block}
use Rattle.rules.proofs.Objects.{object-true, object-false, object-some, object-none}
use Rattle.rules.proofs.Counting.{object-in}
use Rattle.rules.proofs.Filed.{header_at, file-at}
use Rattle.rules.proofs.Keeping.{Way, Good, load-none}
use Rattle.rules.proofs.Placing.{none-recs}

-- options and tests
else-none : {A : Type 0} (x y : Option A) → or_else x y ≡ None → (x ≡ None) × (y ≡ None)
else-none k y e = grind arith

none-else : {A : Type 0} (x y : Option A) → x ≡ None → y ≡ None → or_else x y ≡ None
none-else x y a b = grind arith

plain-none : (b : Bool) (k : ℕ) → plain_if b k ≡ None → b ≡ false
plain-none m k e = grind arith

placed-none : (k : ℕ) (m : Option (ℕ × ℕ)) → placed_fault k m ≡ None → m ≡ None
placed-none k m e = grind arith

-- equal records
bytes-true : (xs ys : List ℕ) → same_bytes xs ys ≡ true → xs ≡ ys
bytes-true [] [] e = refl
bytes-true (x ∷ xs) (y ∷ ys) e = grind (arith, bytes-true xs ys)
bytes-true _ _ e = cc

bytes-self : (xs : List ℕ) → same_bytes xs xs ≡ true
bytes-self [] = refl
bytes-self (x ∷ xs) = grind (arith, bytes-self xs)

pub bytes-from : (xs ys : List ℕ) → xs ≡ ys → same_bytes xs ys ≡ true
bytes-from xs ys e = grind (arith, bytes-self)

pub rec-true : (a b : Record) → same_record a b ≡ true → a ≡ b
rec-true a b e =
    let x = and_parts (eqb a.tag.first b.tag.first) _ e in
    let y = and_parts (eqb a.tag.second b.tag.second) _ x.1 in
    let z = and_parts (eqb a.tag.third b.tag.third) _ y.1 in
    let u = and_parts (eqb a.tag.serial b.tag.serial) _ z.1 in
    λ i. record { tag = record { first = eqb-true _ _ x.0 i; second = eqb-true _ _ y.0 i; third = eqb-true _ _ z.0 i; serial = eqb-true _ _ u.0 i }; bytes = bytes-true a.bytes b.bytes u.1 i }

pub rec-self : (a : Record) → same_record a a ≡ true
rec-self a = grind (arith, bytes-self)

abbrev Agree : Record → Record → Type 0
Agree a b = a.tag.serial ≡ b.tag.serial → a ≡ b

like : (a b : Record) → unlike a b ≡ false → Agree a b
like a b e s = grind (arith, rec-true)

unlike-not : (a b : Record) → Agree a b → unlike a b ≡ false
unlike-not a b h = grind (arith, rec-self)

-- the scan's list has what stands
in-placed : (b c : ℕ) (cs : List Chunk) (r : Record) → Among r (records_of cs) → (q : Placed) × Among q (placed_in b c cs) × (q.what ≡ r)
in-placed b c [] r a = absurd a
in-placed b c (Blank ∷ cs) r a = in-placed b (suc c) cs r a
in-placed b c (Damaged ∷ cs) r a = in-placed b (suc c) cs r a
in-placed b c (Holds x ∷ cs) r (inl e) = (record { block = b; chunk = c; what = x }, inl refl, e)
in-placed b c (Holds x ∷ cs) r (inr a) = (let h = in-placed b (suc c) cs r a in (h.0, inr h.1, h.2))

all_placed : (b : ℕ) (bs : List (List Chunk)) (r : Record) → Among r (standing bs) → (q : Placed) × Among q (placed b bs) × (q.what ≡ r)
all_placed b [] r a = absurd a
all_placed b (x ∷ bs) r a =
    elim (among_cases (records_of x) (standing bs) r a) [
      | inl d ↦ (let h = in-placed b 0 x r d in (grind (arith, among-left)))
      | inr d ↦ (let h = all_placed (suc b) bs r d in (grind (arith, among-right)))
    ]

placed-recs : (b c : ℕ) (cs : List Chunk) (q : Placed) → Among q (placed_in b c cs) → Among q.what (records_of cs)
placed-recs b c [] q a = absurd a
placed-recs b c (Blank ∷ cs) q a = placed-recs b (suc c) cs q a
placed-recs b c (Damaged ∷ cs) q a = placed-recs b (suc c) cs q a
placed-recs b c (Holds x ∷ cs) q (inl e) = grind arith
placed-recs b c (Holds x ∷ cs) q (inr a) = inr (placed-recs b (suc c) cs q a)

placed-stands : (b : ℕ) (bs : List (List Chunk)) (q : Placed) → Among q (placed b bs) → Among q.what (standing bs)
placed-stands b [] q a = absurd a
placed-stands b (x ∷ bs) q a =
    elim (among_cases (placed_in b 0 x) (placed (suc b) bs) q a) [
      | inl d ↦ among-left (records_of x) (standing bs) q.what (placed-recs b 0 x q d)
      | inr d ↦ among-right (records_of x) (standing bs) q.what (placed-stands (suc b) bs q d)
    ]

-- 10
first-all : (t : Placed → Bool) (qs : List Placed) → first_placed t qs ≡ None → (q : Placed) → Among q qs → t q ≡ false
first-all t [] e q a = absurd a
first-all t (x ∷ xs) e q a = grind (arith, first-all t xs, else-none)

all_first : (t : Placed → Bool) (qs : List Placed) → ((q : Placed) → Among q qs → t q ≡ false) → first_placed t qs ≡ None
all_first t [] h = refl
all_first t (x ∷ xs) h = grind (arith, all_first t xs (λ q a. h q (inr a)))

-- 11
record Alike (before : List Record) (qs : List Placed) : Type 0 where
  old : (q : Placed) → Among q qs → (r : Record) → Among r before → Agree q.what r
  new : (q q' : Placed) → Among q qs → Among q' qs → Agree q.what q'.what

clash-step : (x : Placed) (xs : List Placed) (before : List Record) → any (unlike x.what) before ≡ false → Alike (x.what ∷ before) xs → Alike before (x ∷ xs)
clash-step x xs before h rest = record { old = old'; new = new' }
  where
    here : (r : Record) → Among r before → Agree x.what r
    here r a = grind (arith, like, any_false)

    old' : (q : Placed) → Among q (x ∷ xs) → (r : Record) → Among r before → Agree q.what r
    old' q k r a = grind (arith, here)

    new' : (q q' : Placed) → Among q (x ∷ xs) → Among q' (x ∷ xs) → Agree q.what q'.what
    new' q q' (inl p) (inl p') s = grind arith
    new' q q' (inl p) (inr d) s = sym (subst (λ (z : Placed). Agree q'.what z.what) p (rest.old q' d x.what (inl refl)) (sym s))
    new' q q' (inr d) (inl p) s = subst (λ (z : Placed). Agree q.what z.what) p (rest.old q d x.what (inl refl)) s
    new' q q' (inr d) (inr d') s = rest.new q q' d d' s

clash-none : (qs : List Placed) (before : List Record) → first_clash before qs ≡ None → Alike before qs
clash-none [] before e = grind arith
clash-none (x ∷ xs) before e = grind (arith, clash-none xs (x.what ∷ before), clash-step)

none-clash : (qs : List Placed) (before : List Record) → Alike before qs → first_clash before qs ≡ None
none-clash [] before h = refl
none-clash (x ∷ xs) before h =
    none-else (cond (any (unlike x.what) before) (Some (x.block, x.chunk)) None) (first_clash (x.what ∷ before) xs)
    (cond-false (any (unlike x.what) before) _ _ (any_none (unlike x.what) before (λ r a t. both_ways (unlike x.what r) (unlike-not x.what r (h.old x (inl refl) r a)) t)))
    (none-clash xs (x.what ∷ before) (record { old = λ q a r b. go q a r b; new = λ q q' a a'. h.new q q' (inr a) (inr a') }))
  where
    go : (q : Placed) → Among q xs → (r : Record) → Among r (x.what ∷ before) → Agree q.what r
    go q a r (inl p) = subst (Agree q.what) p (h.new q x (inr a) (inl refl))
    go q a r (inr b) = h.old q (inr a) r b

-- 12
-- the object of a file is 257 to 511, where every record keeps the rules
pub file-range : (rs : List Record) → ((r : Record) → Among r rs → keeps_rules r ≡ true) → (o : ℕ) (f : File) → files rs o ≡ Some f → (257 ≤ o) × (o ≤ 511)
file-range rs keeps o f e =
    let a = file-at rs o f e in
    let h = header_at rs o a.head a.header' in
    let q = object-in a.head (keeps a.head h.stands) in
    (grind arith)

pub file-named : (rs : List Record) (o : ℕ) (h : Record) → header rs o ≡ Some h → (f : File) × (files rs o ≡ Some f) × (f.name ≡ name_in h.bytes)
unfolding files
file-named rs o h e = (
  record { name = name_in h.bytes; long = max h.tag.third (highest_chunk rs o); part = λ j. bytes_in (chunk rs o j) },
  ap (λ (m : Option Record). file_of m (highest_chunk rs o) (λ j. bytes_in (chunk rs o j))) e,
  refl,
)

abbrev pub Names : Files → Type 0
Names fs = (o o' : ℕ) (f f' : File) → fs o ≡ Some f → fs o' ≡ Some f' → f.name ≡ f'.name → o ≡ o'

names-from : (fs : Files) → ((o : ℕ) (f : File) → fs o ≡ Some f → (257 ≤ o) × (o ≤ 511)) → two_named fs ≡ false → Names fs
unfolding two_named name_taken
names-from fs range e o o' f f' p p' s =
    elim (cases_eq o o') [
      | inl q ↦ q
      | inr n ↦
          absurd (let a = range o f p in let b = range o' f' p' in
          object-false (λ k. shares_name fs k (fs k)) o e a.0 a.1
          (ap (shares_name fs o) p ∙ object-true (λ k. not (eqb k o) && named f.name (fs k)) o' b.0 b.1
          (grind (arith, bytes-from))))
    ]

names-to : (fs : Files) → Names fs → two_named fs ≡ false
unfolding two_named name_taken
names-to fs names = object-none (λ k. shares_name fs k (fs k)) (λ o t. share o (fs o) refl t)
  where
    other : (o k : ℕ) (f : File) (m : Option File) → fs o ≡ Some f → fs k ≡ m → not (eqb k o) ≡ true → named f.name m ≡ true → ⊥
    other o k f m p q n t = grind (arith, bytes-true)

    share : (o : ℕ) (m : Option File) → fs o ≡ m → shares_name fs o m ≡ true → ⊥
    share o None p t = cc
    share o (Some f) p t = grind (arith, object-some, other)

-- 14
among-index : {A : Type 0} (xs : List A) (x d : A) → Among x xs → (i : ℕ) × (i < length xs) × (get_or xs i d ≡ x)
among-index [] x d a = absurd a
among-index (y ∷ ys) x d (inl e) = (0, omega arith, e)
among-index (y ∷ ys) x d (inr a) = (let h = among-index ys x d a in (suc h.0, (omega arith), h.2))

loadless-true : (bs : List (List Chunk)) (b : ℕ) (xs : List (List Chunk)) → some_loadless bs b xs ≡ true → (i : ℕ) × (i < length xs) × (load bs (b + i) ≡ 0)
loadless-true bs b [] e = cc
loadless-true bs b (x ∷ xs) e =
    elim (or_cases (eqb (load bs b) 0) (some_loadless bs (suc b) xs) e) [
      | inl h ↦ (grind arith)
      | inr h ↦ (let r = loadless-true bs (suc b) xs h in (suc r.0, (omega arith), ap (load bs) (let g : b + suc r.0 ≡ suc b + r.0 = omega arith in g) ∙ r.2))
    ]

loadless-from : (bs : List (List Chunk)) (b : ℕ) (xs : List (List Chunk)) (i : ℕ) → i < length xs → load bs (b + i) ≡ 0 → some_loadless bs b xs ≡ true
loadless-from bs b [] i l e = absurd (omega arith)
loadless-from bs b (x ∷ xs) zero l e = grind arith
loadless-from bs b (x ∷ xs) (suc i) l e = grind (arith, loadless-from bs (suc b) xs i (omega arith))

-- 14 does not come exactly where some block has load 0
pub way-from : (n : ℕ) (bs : List (List Chunk)) → length bs ≡ n → no_way_on bs ≡ false → Way n bs
unfolding no_way_on
way-from n bs m e =
    elim (and_cases (not (any blank_block bs)) (not (some_loadless bs 0 bs)) e) [
      | inl h ↦
          (let x = any-true blank_block bs (not-false _ h) in
          let y = among-index bs x.0 [] x.1 in
          (y.0, (omega arith), load-none bs y.0 (λ r a t. absurd (none-recs (length x.0) r (subst (λ (z : List Chunk). Among r (records_of z)) (y.2 ∙ blank-block x.0 x.2) a)))))
      | inr h ↦
          (let x = loadless-true bs 0 bs (not-false _ h) in
          (x.0, (omega arith), ap (load bs) (let g : x.0 ≡ 0 + x.0 = omega arith in g) ∙ x.2))
    ]

pub way-to : (n : ℕ) (bs : List (List Chunk)) → length bs ≡ n → Way n bs → no_way_on bs ≡ false
unfolding no_way_on
way-to n bs m h =
    and_right (not (any blank_block bs)) (not (some_loadless bs 0 bs))
    (not_from_true _ (loadless-from bs 0 bs h.0 (omega arith) (grind arith)))

-- 11 does not come: records of one serial are equal
pub unique-from : (bs : List (List Chunk)) → first_clash [] (placed 0 bs) ≡ None → Unique (standing bs)
unique-from bs c x y m m' s =
    let al = clash-none (placed 0 bs) [] c in
    let h = all_placed 0 bs x m in
    let h' = all_placed 0 bs y m' in
    sym h.2 ∙ al.new h.0 h'.0 h.1 h'.1 (grind arith) ∙ h'.2

-- 10 does not come: every record keeps the rules
pub keeps-from : (bs : List (List Chunk)) → first_placed (λ q. not (keeps_rules q.what)) (placed 0 bs) ≡ None → (r : Record) → Among r (standing bs) → keeps_rules r ≡ true
keeps-from bs b r m =
    let h = all_placed 0 bs r m in
    subst (λ (z : Record). keeps_rules z ≡ true) h.2 (grind (arith, first-all))

module _ (w n p : ℕ) (bs : List (List Chunk)) where
  abbrev rs : List Record
  rs = standing bs

  abbrev broken-rule : Placed → Bool
  broken-rule q = not (keeps_rules q.what)

  abbrev e14 : Option Fault
  e14 = plain_if (no_way_on bs) 14

  abbrev e13 : Option Fault
  e13 = or_else (plain_if (ltb (limit n p) (used_by (files rs))) 13) e14

  abbrev e12 : Option Fault
  e12 = or_else (plain_if (two_named (files rs)) 12) e13

  abbrev e11 : Option Fault
  e11 = or_else (placed_fault 11 (first_clash [] (placed 0 bs))) e12

  abbrev e10 : Option Fault
  e10 = or_else (placed_fault 10 (first_placed broken-rule (placed 0 bs))) e11

  pub mount-good : Shaped w n p bs → verdict n p bs ≡ None → Good w n p bs
  mount-good sh e =
      let a = else-none (plain_if (not (sizes_fit n p)) 9) e10 e in
      let b = else-none (placed_fault 10 (first_placed broken-rule (placed 0 bs))) e11 a.1 in
      let c = else-none (placed_fault 11 (first_clash [] (placed 0 bs))) e12 b.1 in
      let d = else-none (plain_if (two_named (files rs)) 12) e13 c.1 in
      let f = else-none (plain_if (ltb (limit n p) (used_by (files rs))) 13) e14 d.1 in
      let keeps : (r : Record) → Among r rs → keeps_rules r ≡ true = keeps-from bs (placed-none 10 _ b.0) in
      let range : (o : ℕ) (f : File) → files rs o ≡ Some f → (257 ≤ o) × (o ≤ 511) = file-range rs keeps in
      record {
        sizes = not-false _ (plain-none _ _ a.0);
        shape = sh;
        rules = keeps;
        unique = unique-from bs (placed-none 11 _ c.0);
        filed = record { room = ltb-false _ _ (plain-none _ _ f.0); names = names-from (files rs) range (plain-none _ _ d.0) };
        way = way-from n bs sh.blocks' (plain-none _ _ f.1);
      }

  pub good-mount : Good w n p bs → verdict n p bs ≡ None
  good-mount g =
      none-else (plain_if (not (sizes_fit n p)) 9) e10 (grind arith)
      (none-else (placed_fault 10 (first_placed broken-rule (placed 0 bs))) e11 (ap (placed_fault 10) (all_first broken-rule (placed 0 bs) (λ q a. not_from_true _ (g.rules q.what (placed-stands 0 bs q a)))))
      (none-else (placed_fault 11 (first_clash [] (placed 0 bs))) e12 (ap (placed_fault 11) (none-clash (placed 0 bs) [] (record { old = λ q a r b. absurd b; new = λ q q' a a' s. g.unique q.what q'.what (placed-stands 0 bs q a) (placed-stands 0 bs q' a') s })))
      (none-else (plain_if (two_named (files rs)) 12) e13 (ap (λ (z : Bool). plain_if z 12) (names-to (files rs) g.filed.names))
      (none-else (plain_if (ltb (limit n p) (used_by (files rs))) 13) e14 (ap (λ (z : Bool). plain_if z 13) (le-ltb _ _ g.filed.room))
      (ap (λ (z : Bool). plain_if z 14) (way-to n bs g.shape.blocks' g.way))))))
