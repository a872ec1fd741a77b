-- How much the files use once one of them has changed. Assumes nothing.
use Rattle.std.proofs.Common.{◌≡◌, ℕ, zero, suc, ◌+◌, ◌<◌, ◌≤◌, Bool, true, false, cond, eqb, List, Some, None, Option, refl, ap, ◌∙◌, inl, inr, arith}
use Rattle.std.proofs.lemmas.Bool.{cases_eq, cond-true, cond-false, eq-eqb, ne_eqb}
use Rattle.rules.specs.Lists.{is_there}
use Rattle.rules.specs.Reading.{File, Files, parts_up, used_of, used_up, used_by}
use Rattle.rules.specs.Right.{changed, fresh, with_part}

-- one object's file changed
module _ (fs : Files) (o : ℕ) (f : Option File → Option File) where
  here : (k : ℕ) → k ≡ o → used_of (changed fs o f k) ≡ used_of (f (fs o))
  here k e = ap used_of (cond-true (eqb k o) (f (fs k)) (fs k) (eq-eqb k o e) ∙ ap (λ (z : ℕ). f (fs z)) e)

  there : (k : ℕ) → (k ≡ o → ⊥) → used_of (changed fs o f k) ≡ used_of (fs k)
  there k n = ap used_of (cond-false (eqb k o) (f (fs k)) (fs k) (ne_eqb k o n))

  before : (k : ℕ) → 257 + k ≤ o → used_up (changed fs o f) k ≡ used_up fs k
  before zero l = refl
  before (suc k) l = omega (arith, there (257 + k) (λ e. omega arith), before k (omega arith))

  up : (k : ℕ) → 257 ≤ o → o < 257 + k → used_up (changed fs o f) k + used_of (fs o) ≡ used_up fs k + used_of (f (fs o))
  up zero l h = absurd (omega arith)
  up (suc k) l h =
      elim (cases_eq (257 + k) o) [
        | inl e ↦ omega (arith, here (257 + k) e, before k (omega arith), ap (λ (z : ℕ). used_of (fs z)) e)
        | inr n ↦ omega (arith, there (257 + k) n, up k l (omega arith))
      ]

  pub used_by-changed : 257 ≤ o → o ≤ 511 → used_by (changed fs o f) + used_of (fs o) ≡ used_by fs + used_of (f (fs o))
  unfolding used_by
  used_by-changed l h = up 255 l (omega arith)

-- a new file
no-parts : (k : ℕ) → parts_up (λ j. None) k ≡ 0
no-parts zero = refl
no-parts (suc k) = omega (arith, no-parts k)

pub used_of-fresh : (name : List ℕ) (m : Option File) → used_of (fresh name m) ≡ 1
unfolding used_of
used_of-fresh name m = ap (λ (k : ℕ). 1 + k) (no-parts 1000)

-- a chunk put: one more is used if it was missing
module _ (part : ℕ → Option (List ℕ)) (j : ℕ) (bs : List ℕ) where
  abbrev laid : ℕ → Option (List ℕ)
  laid k = cond (eqb k j) (Some bs) (part k)

  at : (k : ℕ) → k ≡ j → is_there (laid k) ≡ true
  at k e = ap is_there (cond-true (eqb k j) (Some bs) (part k) (eq-eqb k j e))

  other : (k : ℕ) → (k ≡ j → ⊥) → is_there (laid k) ≡ is_there (part k)
  other k n = ap is_there (cond-false (eqb k j) (Some bs) (part k) (ne_eqb k j n))

  below : (k : ℕ) → k < j → parts_up laid k ≡ parts_up part k
  below zero l = refl
  below (suc k) l = omega (arith, ap {B = ℕ} (λ (b : Bool). cond b 1 0) (other (suc k) (λ e. omega arith)), below k (omega arith))

  one : (b : Bool) (n : ℕ) → 1 + n ≡ cond b 1 0 + n + cond b 0 1
  one true n = omega arith
  one false n = omega arith

  parts : (k : ℕ) → 1 ≤ j → j ≤ k → parts_up laid k ≡ parts_up part k + cond (is_there (part j)) 0 1
  parts zero l h = absurd (omega arith)
  parts (suc k) l h =
      elim (cases_eq (suc k) j) [
        | inl e ↦ omega (arith, ap {B = ℕ} (λ (b : Bool). cond b 1 0) (at (suc k) e), below k (omega arith), one (is_there (part j)) (parts_up part k), ap {B = ℕ} (λ (z : ℕ). cond (is_there (part z)) 1 0) e)
        | inr n ↦ omega (arith, ap {B = ℕ} (λ (b : Bool). cond b 1 0) (other (suc k) n), parts k l (omega arith))
      ]

header-more : (a b c : ℕ) → a ≡ b + c → 1 + a ≡ 1 + b + c
header-more a b c e = omega arith

pub used_of-with_part : (j : ℕ) (bs : List ℕ) (f : File) → 1 ≤ j → j ≤ 1000 → used_of (with_part j bs (Some f)) ≡ used_of (Some f) + cond (is_there (f.part j)) 0 1
unfolding used_of
used_of-with_part j bs f l h = header-more _ _ _ (parts f.part j bs 1000 l h)
