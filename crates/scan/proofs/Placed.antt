-- Records with their places, as a list over the rows, and the first of them that passes a test. Assumes nothing.
use Rattle.std.proofs.Common.{◌≡◌, ℕ, zero, suc, ◌+◌, ◌*◌, ◌/◌, ◌%◌, ◌<◌, Bool, true, false, cond, List, [], ◌∷◌, ◌++◌, length, get_or, Some, None, Option, sym, refl, ap, ◌∙◌, arith}
use lib.Arith.{digits_div, digits_mod}
use Rattle.std.proofs.lemmas.Bool.{cond-true, cond-false}
use Rattle.flash.specs.declared.chunks.Record.{Record}
use Rattle.flash.specs.declared.chunks.Chunk.{Chunk}
use Rattle.flash.specs.declared.chunks.Chunk.TheVariants.{Blank, Damaged, Holds}
use Rattle.flash.specs.Model.{State, tab, blocks_of}
use Rattle.flash.proofs.Views.{length-tab}
use Rattle.rules.specs.Lists.{or_else}
use Rattle.rules.specs.Mounting.{Placed, cons_placed, placed_in, placed, first_placed}
use Rattle.scan.specs.Flat.{flat}
use Rattle.scan.specs.Tables.{row_of}
use Rattle.scan.proofs.Flat.{flat-long}

-- the records of rows i, i + 1 .. of a chip with blocks of p chunks
abbrev pub placed_from : ℕ → ℕ → List Chunk → List Placed
placed_from p i [] = []
placed_from p i (x ∷ xs) = cons_placed (i / p) (i % p) x (placed_from p (i + 1) xs)

-- a block's chunks from c on, and then the rows after it
cons-append : (b c : ℕ) (x : Chunk) (ps qs : List Placed) → cons_placed b c x ps ++ qs ≡ cons_placed b c x (ps ++ qs)
cons-append b c Blank ps qs = refl
cons-append b c Damaged ps qs = refl
cons-append b c (Holds r) ps qs = refl

block-from : (p b c : ℕ) (xs ys : List Chunk) → c + length xs ≡ p → placed_in b c xs ++ placed_from p ((b + 1) * p) ys ≡ placed_from p (b * p + c) (xs ++ ys)
block-from p b c [] ys l = ap (λ (z : ℕ). placed_from p z ys) (let e : (b + 1) * p ≡ b * p + c = omega arith in e)
block-from p b c (x ∷ xs) ys l =
    let h : c < p = omega arith in
    cons-append b c x (placed_in b (suc c) xs) (placed_from p ((b + 1) * p) ys)
    ∙ ap (cons_placed b c x) (block-from p b (suc c) xs ys (omega arith) ∙ ap (λ (z : ℕ). placed_from p z (xs ++ ys)) (let e : b * p + suc c ≡ b * p + c + 1 = omega arith in e))
    ∙ ap (λ (z : ℕ). cons_placed z c x (placed_from p (b * p + c + 1) (xs ++ ys))) (sym (digits_div b h))
    ∙ ap (λ (z : ℕ). cons_placed ((b * p + c) / p) z x (placed_from p (b * p + c + 1) (xs ++ ys))) (sym (digits_mod b h))

tab-from : (f : ℕ → ℕ → Chunk) (p i n : ℕ) → placed i (tab (λ b. tab (f b) 0 p) i n) ≡ placed_from p (i * p) (flat (tab (λ b. tab (f b) 0 p) i n))
unfolding tab
tab-from f p i zero = refl
tab-from f p i (suc n) =
    ap (λ (z : ℕ). placed_in i 0 (tab (f i) 0 p) ++ placed z (tab (λ b. tab (f b) 0 p) (i + 1) n)) (let e : suc i ≡ i + 1 = omega arith in e)
    ∙ ap (λ (z : List Placed). placed_in i 0 (tab (f i) 0 p) ++ z) (tab-from f p (i + 1) n)
    ∙ block-from p i 0 (tab (f i) 0 p) (flat (tab (λ b. tab (f b) 0 p) (i + 1) n)) (omega (arith, length-tab (f i) 0 p))
    ∙ ap (λ (z : ℕ). placed_from p z (tab (f i) 0 p ++ flat (tab (λ b. tab (f b) 0 p) (i + 1) n))) (let e : i * p + 0 ≡ i * p = omega arith in e)

-- a chip's records in rising place are those of its rows
pub placed-rows : (s : State) → placed 0 (blocks_of s) ≡ placed_from s.p 0 (flat (blocks_of s))
unfolding blocks_of
placed-rows s = tab-from s.cells s.p 0 s.n ∙ ap (λ (z : ℕ). placed_from s.p z (flat (blocks_of s))) (let e : 0 * s.p ≡ 0 = omega arith in e)

-- the first place that passes is an earlier one, or one of the rest
pub none_here : (b : Bool) (q : ℕ × ℕ) (later : Option (ℕ × ℕ)) → b ≡ false → or_else (cond b (Some q) None) later ≡ later
none_here b q later e = ap (λ (z : Option (ℕ × ℕ)). or_else z later) (cond-false b (Some q) None e)

pub some-here : (b : Bool) (q : ℕ × ℕ) (later : Option (ℕ × ℕ)) → b ≡ true → or_else (cond b (Some q) None) later ≡ Some q
some-here b q later e = ap (λ (z : Option (ℕ × ℕ)). or_else z later) (cond-true b (Some q) None e)

-- place i + k of the rows from i on
pub same_place : (p i j : ℕ) → i ≡ j → ◌≡◌ {A = Option (ℕ × ℕ)} (Some (i / p, i % p)) (Some (j / p, j % p))
same_place p i j e = ap (λ (z : ℕ). Some (z / p, z % p)) e

module _ (t : Record → Bool) (p : ℕ) where
  none_rows : (i : ℕ) (xs : List Chunk) → ((k : ℕ) (r : Record) → k < length xs → get_or xs k Blank ≡ Holds r → t r ≡ false) → first_placed (λ q. t q.what) (placed_from p i xs) ≡ None
  none_rows i [] h = refl
  none_rows i (Blank ∷ xs) h = none_rows (i + 1) xs (λ k r l. h (suc k) r (omega arith))
  none_rows i (Damaged ∷ xs) h = none_rows (i + 1) xs (λ k r l. h (suc k) r (omega arith))
  none_rows i (Holds a ∷ xs) h =
      none_here (t a) (i / p, i % p) _ (h 0 a (omega arith) refl) ∙ none_rows (i + 1) xs (λ k r l. h (suc k) r (omega arith))

  some-rows : (i : ℕ) (xs : List Chunk) (k : ℕ) (r : Record) → get_or xs k Blank ≡ Holds r → t r ≡ true → ((j : ℕ) (a : Record) → j < k → get_or xs j Blank ≡ Holds a → t a ≡ false) → first_placed (λ q. t q.what) (placed_from p i xs) ≡ Some ((i + k) / p, (i + k) % p)
  some-rows i [] k r e y h = cc
  some-rows i (Blank ∷ xs) zero r e y h = cc
  some-rows i (Damaged ∷ xs) zero r e y h = cc
  some-rows i (Holds a ∷ xs) zero r e y h =
      some-here (t a) (i / p, i % p) _ (ap t (let q : a ≡ r = cc in q) ∙ y) ∙ same_place p i (i + 0) (omega arith)
  some-rows i (Blank ∷ xs) (suc k) r e y h = some-rows (i + 1) xs k r e y (λ j a l. h (suc j) a (omega arith)) ∙ same_place p (i + 1 + k) (i + suc k) (omega arith)
  some-rows i (Damaged ∷ xs) (suc k) r e y h = some-rows (i + 1) xs k r e y (λ j a l. h (suc j) a (omega arith)) ∙ same_place p (i + 1 + k) (i + suc k) (omega arith)
  some-rows i (Holds a ∷ xs) (suc k) r e y h =
      none_here (t a) (i / p, i % p) _ (h 0 a (omega arith) refl)
      ∙ some-rows (i + 1) xs k r e y (λ j b l. h (suc j) b (omega arith)) ∙ same_place p (i + 1 + k) (i + suc k) (omega arith)

-- no record of any row passes the test
pub first-placed-none : (s : State) (t : Record → Bool) → ((k : ℕ) (r : Record) → k < s.n * s.p → row_of s k ≡ Holds r → t r ≡ false) → first_placed (λ q. t q.what) (placed 0 (blocks_of s)) ≡ None
first-placed-none s t h =
    ap (first_placed (λ q. t q.what)) (placed-rows s)
    ∙ none_rows t s.p 0 (flat (blocks_of s)) (λ k r l. h k r (omega (arith, flat-long s)))

-- row k is the first whose record passes
pub first-placed-some : (s : State) (t : Record → Bool) (k : ℕ) (r : Record) → row_of s k ≡ Holds r → t r ≡ true → ((j : ℕ) (a : Record) → j < k → row_of s j ≡ Holds a → t a ≡ false) → first_placed (λ q. t q.what) (placed 0 (blocks_of s)) ≡ Some (k / s.p, k % s.p)
first-placed-some s t k r e y h =
    ap (first_placed (λ q. t q.what)) (placed-rows s) ∙ some-rows t s.p 0 (flat (blocks_of s)) k r e y h ∙ same_place s.p (0 + k) k (omega arith)
