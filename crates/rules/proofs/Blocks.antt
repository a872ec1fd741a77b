-- What stands after a change of one block. Assumes nothing.
use Rattle.std.proofs.Common.{◌≡◌, ℕ, zero, suc, ◌<◌, true, ◌⊎◌, List, [], ◌∷◌, ◌++◌, length, get_or, set, refl, subst, inl, inr, arith}
use Rattle.flash.specs.declared.chunks.Record.{Record}
use Rattle.rules.specs.Lists.{Among}
use Rattle.rules.specs.Reading.{files, wanted}
use Rattle.rules.specs.Laws.{Unique, Left, CopyingKeepsFiles}
use Rattle.flash.specs.declared.chunks.Chunk.{Chunk}
use Rattle.flash.specs.declared.chunks.Chunk.TheVariants.{Blank, Damaged, Holds}
use Rattle.flash.specs.Blocks.{cons_record, records_of, standing, put_at}
use Rattle.rules.proofs.Copies.{files_same}
use Rattle.rules.proofs.Shrinking.{shrunk-files}

module _ {A : Type 0} where
  pub among-left : (xs ys : List A) (x : A) → Among x xs → Among x (xs ++ ys)
  among-left [] ys x a = absurd a
  among-left (z ∷ zs) ys x (inl p) = inl p
  among-left (z ∷ zs) ys x (inr a) = inr (among-left zs ys x a)

  pub among-right : (xs ys : List A) (x : A) → Among x ys → Among x (xs ++ ys)
  among-right [] ys x a = a
  among-right (z ∷ zs) ys x a = inr (among-right zs ys x a)

  pub among_cases : (xs ys : List A) (x : A) → Among x (xs ++ ys) → Among x xs ⊎ Among x ys
  among_cases [] ys x a = inr a
  among_cases (z ∷ zs) ys x (inl p) = inl (inl p)
  among_cases (z ∷ zs) ys x (inr a) = grind (arith, among_cases zs ys x a)

-- a block set to cs: what stands is in cs, or in another block
pub set_cases : (bs : List (List Chunk)) (b : ℕ) (cs : List Chunk) (r : Record) → Among r (standing (set bs b cs)) → Among r (records_of cs) ⊎ Among r (standing (set bs b []))
set_cases [] b cs r a = absurd a
set_cases (x ∷ bs) zero cs r a = grind (arith, among_cases)
set_cases (x ∷ bs) (suc b) cs r a =
    elim (among_cases (records_of x) (standing (set bs b cs)) r a) [
      | inl c ↦ grind (arith, among-left)
      | inr c ↦ elim (set_cases bs b cs r c) [ inl d ↦ inl d | inr d ↦ grind (arith, among-right) ]
    ]

pub set_other : (bs : List (List Chunk)) (b : ℕ) (cs : List Chunk) (r : Record) → Among r (standing (set bs b [])) → Among r (standing (set bs b cs))
set_other [] b cs r a = a
set_other (x ∷ bs) zero cs r a = grind (arith, among-right)
set_other (x ∷ bs) (suc b) cs r a =
    elim (among_cases (records_of x) (standing (set bs b [])) r a) [
      | inl c ↦ grind (arith, among-left)
      | inr c ↦ among-right (records_of x) (standing (set bs b cs)) r (set_other bs b cs r c)
    ]

pub set-in : (bs : List (List Chunk)) (b : ℕ) (cs : List Chunk) (r : Record) → b < length bs → Among r (records_of cs) → Among r (standing (set bs b cs))
set-in [] b cs r l a = absurd (omega arith)
set-in (x ∷ bs) zero cs r l a = grind (arith, among-left)
set-in (x ∷ bs) (suc b) cs r l a = search (arith, set-in bs b cs r (omega arith) a, among-right)

-- as it is
pub same_set : (bs : List (List Chunk)) (b : ℕ) → set bs b (get_or bs b []) ≡ bs
same_set [] b = refl
same_set (x ∷ bs) zero = refl
same_set (x ∷ bs) (suc b) = grind (arith, same_set bs b)

pub now-cases : (bs : List (List Chunk)) (b : ℕ) (r : Record) → Among r (standing bs) → Among r (records_of (get_or bs b [])) ⊎ Among r (standing (set bs b []))
now-cases bs b r a = search (arith, set_cases, same_set)

pub now-other : (bs : List (List Chunk)) (b : ℕ) (r : Record) → Among r (standing (set bs b [])) → Among r (standing bs)
now-other bs b r a = subst (λ (z : List (List Chunk)). Among r (standing z)) (same_set bs b) (set_other bs b (get_or bs b []) r a)

pub now-in : (bs : List (List Chunk)) (b : ℕ) (r : Record) → Among r (records_of (get_or bs b [])) → Among r (standing bs)
now-in [] b r a = absurd a
now-in (x ∷ bs) zero r a = grind (arith, among-left)
now-in (x ∷ bs) (suc b) r a = among-right (records_of x) (standing bs) r (now-in bs b r a)

-- a chunk's record, in front of others
pub cons-in : (c : Chunk) (rs : List Record) (r : Record) → c ≡ Holds r → Among r (cons_record c rs)
cons-in k rs r e = grind arith

pub left-from : (xs ys : List Chunk) → Left xs ys → (r : Record) → Among r (records_of ys) → Among r (records_of xs)
left-from [] [] l r a = a
left-from [] (y ∷ ys) l r a = absurd l
left-from (x ∷ xs) [] l r a = absurd a
left-from (x ∷ xs) (y ∷ ys) l r a = grind (arith, left-from xs ys l.1 r, cons-in)

-- an erase, whole or failed, of a block whose wanted records stand elsewhere too
pub erase-files : (bs : List (List Chunk)) (b : ℕ) (left : List Chunk) → Unique (standing bs) → Left (get_or bs b []) left
    → ((r : Record) → Among r (records_of (get_or bs b [])) → wanted (standing bs) r ≡ true → Among r (standing (set bs b [])))
    → (o : ℕ) → files (standing bs) o ≡ files (standing (set bs b left)) o
erase-files bs b left q l safe o =
    shrunk-files (standing bs) (standing (set bs b left)) q
    (record {
      from = λ r a. elim (set_cases bs b left r a) [ inl c ↦ now-in bs b r (left-from (get_or bs b []) left l r c) | inr c ↦ now-other bs b r c ];
      kept = λ r a t. elim (now-cases bs b r a) [ inl c ↦ set_other bs b left r (safe r c t) | inr c ↦ set_other bs b left r c ];
    }) o

-- a chunk set to another content
pub chunk-cases : (cs : List Chunk) (c : ℕ) (left : Chunk) (r : Record) → Among r (records_of (set cs c left)) → (left ≡ Holds r) ⊎ Among r (records_of cs)
chunk-cases [] c left r a = absurd a
chunk-cases (x ∷ cs) zero left r a = grind arith
chunk-cases (x ∷ cs) (suc c) left r a = grind (arith, chunk-cases cs c left r, cons-in)

pub chunk-keeps : (cs : List Chunk) (c : ℕ) (left : Chunk) (r : Record) → get_or cs c Damaged ≡ Blank → Among r (records_of cs) → Among r (records_of (set cs c left))
chunk-keeps [] c left r e a = a
chunk-keeps (x ∷ cs) zero left r e a = grind arith
chunk-keeps (x ∷ cs) (suc c) left r e a = grind (arith, chunk-keeps cs c left r e, cons-in)

-- in a block that holds something the change is seen
pub set-seen : (bs : List (List Chunk)) (b : ℕ) (cs : List Chunk) (x r : Record) → Among x (records_of (get_or bs b [])) → Among r (records_of cs) → Among r (standing (set bs b cs))
set-seen [] b cs x r w a = absurd w
set-seen (y ∷ bs) zero cs x r w a = grind (arith, among-left)
set-seen (y ∷ bs) (suc b) cs x r w a = search (arith, set-seen bs b cs x r w a, among-right)

pub put_keeps : (bs : List (List Chunk)) (b c : ℕ) (left : Chunk) (r : Record) → get_or (get_or bs b []) c Damaged ≡ Blank → Among r (standing bs) → Among r (standing (put_at bs b c left))
put_keeps bs b c left r e a =
    elim (now-cases bs b r a) [
      | inl d ↦ set-seen bs b (set (get_or bs b []) c left) r r d (chunk-keeps (get_or bs b []) c left r e d)
      | inr d ↦ set_other bs b (set (get_or bs b []) c left) r d
    ]

pub put-cases : (bs : List (List Chunk)) (b c : ℕ) (left : Chunk) (r : Record) → Among r (standing (put_at bs b c left)) → (left ≡ Holds r) ⊎ Among r (standing bs)
put-cases bs b c left r a = grind (arith, set_cases, chunk-cases, now-in, now-other)

pub is_copy : (rs : List Record) (r s : Record) (left : Chunk) → Among r rs → (left ≡ Holds r) ⊎ ((left ≡ Damaged) ⊎ (left ≡ Blank)) → left ≡ Holds s → Among s rs
is_copy rs r s left a k f = grind arith

pub copying-keeps-files : CopyingKeepsFiles
copying-keeps-files bs b c r q a e left l o =
    files_same (standing bs) (standing (put_at bs b c left)) q
    (record {
      to = λ s d. put_keeps bs b c left s e d;
      from = grind (arith, put-cases, is_copy);
    }) o
