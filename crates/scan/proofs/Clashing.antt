-- Records that clash, by their tags and data, and the first place that clashes with an earlier one. Assumes nothing.
use Rattle.std.proofs.Common.{◌≡◌, ℕ, zero, suc, ◌+◌, ◌*◌, ◌/◌, ◌%◌, ◌<◌, Bool, true, false, not, ◌&&◌, ◌||◌, eqb, List, [], ◌∷◌, length, get_or, take, Some, None, sym, refl, ap, ◌∙◌, subst, ⊎_elim, arith}
use Rattle.std.specs.Str.{bytes_eq}
use Rattle.rules.specs.Lists.{any, same_bytes}
use Rattle.flash.specs.declared.chunks.Record.{Record}
use Rattle.flash.specs.declared.chunks.Tag.{Tag}
use Rattle.flash.specs.declared.chunks.Chunk.{Chunk}
use Rattle.flash.specs.declared.chunks.Chunk.TheVariants.{Blank, Damaged, Holds}
use Rattle.std.proofs.lemmas.List.{length-take-le, get_or-take}
use Rattle.std.proofs.lemmas.List.Recursion.{or_at, or_from_places}
use Rattle.std.proofs.lemmas.Bool.{both_ways, or_parts, or_cases}
use Rattle.flash.specs.Model.{State, blocks_of}
use Rattle.scan.specs.Flat.{flat}
use Rattle.scan.specs.Tables.{row_of}
use Rattle.scan.proofs.Telling.{Recorded}
use Rattle.scan.proofs.Flat.{flat-long}
use Rattle.scan.proofs.Placed.{placed_from, placed-rows, none_here, some-here, same_place}
use Rattle.rules.specs.Mounting.{same_record, unlike, first_clash, placed}
use Rattle.scan.specs.Clashes.{clashing, clashes_to}

-- two tags are the same
abbrev same_tag : Tag → Tag → Bool
same_tag t u = eqb t.first u.first && (eqb t.second u.second && (eqb t.third u.third && eqb t.serial u.serial))

bytes-same : (xs ys : List ℕ) → same_bytes xs ys ≡ bytes_eq xs ys
bytes-same [] [] = refl
bytes-same [] (y ∷ ys) = refl
bytes-same (x ∷ xs) [] = refl
bytes-same (x ∷ xs) (y ∷ ys) = ap (λ (b : Bool). eqb x y && b) (bytes-same xs ys)

and_four : (a b c d e : Bool) → (a && (b && (c && (d && e)))) ≡ ((a && (b && (c && d))) && e)
and_four false b c d e = refl
and_four true false c d e = refl
and_four true true false d e = refl
and_four true true true d e = refl

unlike-is : (a b : Record) → unlike a b ≡ (eqb a.tag.serial b.tag.serial && not (same_tag a.tag b.tag && bytes_eq a.bytes b.bytes))
unlike-is a b = by (eqb a.tag.serial b.tag.serial) ∙ ap (λ (s : Bool). eqb a.tag.serial b.tag.serial && not s) same
  where
    by : (z : Bool) → ◌≡◌ {A = Bool} (elim z [ true ↦ not (same_record a b) | false ↦ false ]) (z && not (same_record a b))
    by true = refl
    by false = refl

    same : same_record a b ≡ (same_tag a.tag b.tag && bytes_eq a.bytes b.bytes)
    same =
        and_four (eqb a.tag.first b.tag.first) (eqb a.tag.second b.tag.second) (eqb a.tag.third b.tag.third) (eqb a.tag.serial b.tag.serial) (same_bytes a.bytes b.bytes)
        ∙ ap (λ (s : Bool). same_tag a.tag b.tag && s) (bytes-same a.bytes b.bytes)

-- two records clash where their serials are the same, and their tags or their data are not
pub clash-is : {x y : Chunk} {a b : Record} {t u : Tag} → x ≡ Holds a → y ≡ Holds b → a.tag ≡ t → b.tag ≡ u
    → clashing x y ≡ (eqb t.serial u.serial && not (same_tag t u && bytes_eq a.bytes b.bytes))
clash-is {a = a} {b = b} p q e f = rw (p, q, ← e, ← f) (unlike-is a b)

-- the same of what two rows tell, as far as the tags say it
pub clash-told : {s u : State} {j i : ℕ} {g h : Tag} → Recorded s j g → Recorded u i h → (v : Bool) × (clashing (row_of s j) (row_of u i) ≡ (eqb g.serial h.serial && not (same_tag g h && v)))
clash-told x y = (bytes_eq x.found.bytes y.found.bytes, clash-is x.here y.here x.tag y.tag)

-- a chunk that holds no record clashes with none
pub none-clash : (x : Chunk) → ((r : Record) → x ≡ Holds r → ⊥) → (cs : List Chunk) → any (clashing x) cs ≡ false
none-clash x n [] = refl
none-clash Blank n (y ∷ cs) = none-clash Blank n cs
none-clash Damaged n (y ∷ cs) = none-clash Damaged n cs
none-clash (Holds r) n (y ∷ cs) = absurd (n r refl)

-- row j clashes with one of the first rows, or with none
module _ (s : State) (j : ℕ) (inside : j < s.n * s.p) where
  long : length (take j (flat (blocks_of s))) ≡ j
  long = length-take-le j (flat (blocks_of s)) (omega (arith, flat-long s))

  pub clash-found : (i : ℕ) → i < j → true ≡ clashing (row_of s j) (row_of s i) → true ≡ clashes_to s j j
  clash-found i h e =
      sym (or_at (any (clashing (row_of s j))) (clashing (row_of s j)) refl (λ _ _. refl) (take j (flat (blocks_of s))) i Blank (omega (arith, long))
      (ap (clashing (row_of s j)) (get_or-take j (flat (blocks_of s)) i Blank h) ∙ sym e))

  pub clash-nowhere : ((i : ℕ) → i < j → clashing (row_of s j) (row_of s i) ≡ false) → false ≡ clashes_to s j j
  clash-nowhere f =
      sym (or_from_places (any (clashing (row_of s j))) (clashing (row_of s j)) refl (λ _ _. refl) (take j (flat (blocks_of s))) Blank
      (λ i h. let l : i < j = omega (arith, long) in ap (clashing (row_of s j)) (get_or-take j (flat (blocks_of s)) i Blank l) ∙ f i l))

-- a record at row k clashes with one of those before the rows, or with one of the rows before it
abbrev Clash : List Record → List Chunk → ℕ → Record → Bool
Clash before xs k r = any (unlike r) before || any (clashing (Holds r)) (take k xs)

or-moved : (a b c : Bool) → ((b || a) || c) ≡ (a || (b || c))
or-moved true true c = refl
or-moved true false c = refl
or-moved false true c = refl
or-moved false false c = refl

module _ (p : ℕ) where
  none_rows : (i : ℕ) (before : List Record) (xs : List Chunk) → ((k : ℕ) (r : Record) → k < length xs → get_or xs k Blank ≡ Holds r → Clash before xs k r ≡ false) → first_clash before (placed_from p i xs) ≡ None
  none_rows i before [] h = refl
  none_rows i before (Blank ∷ xs) h = none_rows (i + 1) before xs (λ k r l. h (suc k) r (omega arith))
  none_rows i before (Damaged ∷ xs) h = none_rows (i + 1) before xs (λ k r l. h (suc k) r (omega arith))
  none_rows i before (Holds a ∷ xs) h =
      none_here (any (unlike a) before) (i / p, i % p) _ (or_parts _ _ (h 0 a (omega arith) refl)).0
      ∙ none_rows (i + 1) (a ∷ before) xs (λ k r l e. or-moved (any (unlike r) before) (unlike r a) _ ∙ h (suc k) r (omega arith) e)

  some-rows : (i : ℕ) (before : List Record) (xs : List Chunk) (k : ℕ) (r : Record) → get_or xs k Blank ≡ Holds r → Clash before xs k r ≡ true
      → ((j : ℕ) (a : Record) → j < k → get_or xs j Blank ≡ Holds a → Clash before xs j a ≡ false) → first_clash before (placed_from p i xs) ≡ Some ((i + k) / p, (i + k) % p)
  some-rows i before [] k r e y h = cc
  some-rows i before (Blank ∷ xs) zero r e y h = cc
  some-rows i before (Damaged ∷ xs) zero r e y h = cc
  some-rows i before (Holds a ∷ xs) zero r e y h =
      let q : a ≡ r = cc in
      some-here (any (unlike a) before) (i / p, i % p) _ (⊎_elim (λ (b : any (unlike r) before ≡ true). ap (λ (c : Record). any (unlike c) before) q ∙ b) (λ (b : false ≡ true). absurd (both_ways false refl b)) (or_cases _ _ y))
      ∙ same_place p i (i + 0) (omega arith)
  some-rows i before (Blank ∷ xs) (suc k) r e y h = some-rows (i + 1) before xs k r e y (λ j a l. h (suc j) a (omega arith)) ∙ same_place p (i + 1 + k) (i + suc k) (omega arith)
  some-rows i before (Damaged ∷ xs) (suc k) r e y h = some-rows (i + 1) before xs k r e y (λ j a l. h (suc j) a (omega arith)) ∙ same_place p (i + 1 + k) (i + suc k) (omega arith)
  some-rows i before (Holds a ∷ xs) (suc k) r e y h =
      none_here (any (unlike a) before) (i / p, i % p) _ (or_parts _ _ (h 0 a (omega arith) refl)).0
      ∙ some-rows (i + 1) (a ∷ before) xs k r e (or-moved (any (unlike r) before) (unlike r a) _ ∙ y) (λ j b l f. or-moved (any (unlike b) before) (unlike b a) _ ∙ h (suc j) b (omega arith) f)
      ∙ same_place p (i + 1 + k) (i + suc k) (omega arith)

row-clash : (s : State) (k : ℕ) (r : Record) (b : Bool) → row_of s k ≡ Holds r → clashes_to s k k ≡ b → Clash [] (flat (blocks_of s)) k r ≡ b
row-clash s k r b e h = subst (λ (x : Chunk). any (clashing x) (take k (flat (blocks_of s))) ≡ b) e h

-- no row clashes with an earlier one
pub first-clash-none : (s : State) → ((k : ℕ) → k < s.n * s.p → clashes_to s k k ≡ false) → None ≡ first_clash [] (placed 0 (blocks_of s))
first-clash-none s h =
    sym (ap (first_clash []) (placed-rows s) ∙ none_rows s.p 0 [] (flat (blocks_of s)) (λ k r l e. row-clash s k r false e (h k (omega (arith, flat-long s)))))

-- row k is the first that does
pub first-clash-some : (s : State) (k : ℕ) (r : Record) → row_of s k ≡ Holds r → true ≡ clashes_to s k k → ((j : ℕ) → j < k → clashes_to s j j ≡ false) → first_clash [] (placed 0 (blocks_of s)) ≡ Some (k / s.p, k % s.p)
first-clash-some s k r e y h =
    ap (first_clash []) (placed-rows s)
    ∙ some-rows s.p 0 [] (flat (blocks_of s)) k r e (row-clash s k r true e (sym y)) (λ j a l f. row-clash s j a false f (h j l))
    ∙ same_place s.p (0 + k) k (omega arith)
