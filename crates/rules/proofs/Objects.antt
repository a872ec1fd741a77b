-- Tests over the object numbers 257 to 511. Assumes nothing.
use Rattle.std.proofs.Common.{◌≡◌, ℕ, zero, suc, ◌+◌, ◌-◌, ◌<◌, ◌≤◌, Bool, true, false, inl, inr, arith}
use Rattle.std.proofs.lemmas.Bool.{both_ways, cases_eq, or_right}
use Rattle.rules.specs.Reading.{any_up, any_object}

up-true : (t : ℕ → Bool) (n k : ℕ) → k < n → t (257 + k) ≡ true → any_up t n ≡ true
up-true t zero k l e = absurd (omega arith)
up-true t (suc n) k l e =
    elim (cases_eq k n) [
      | inl q ↦ grind arith
      | inr q ↦ or_right _ _ (up-true t n k (omega arith) e)
    ]

up-some : (t : ℕ → Bool) (n : ℕ) → any_up t n ≡ true → (o : ℕ) × (t o ≡ true)
up-some t zero e = cc
up-some t (suc n) e = grind (arith, up-some t n)

pub object-true : (t : ℕ → Bool) (o : ℕ) → 257 ≤ o → o ≤ 511 → t o ≡ true → any_object t ≡ true
unfolding any_object
object-true t o l h e = up-true t 255 (o - 257) (omega arith) (grind arith)

pub object-some : (t : ℕ → Bool) → any_object t ≡ true → (o : ℕ) × (t o ≡ true)
unfolding any_object
object-some t e = up-some t 255 e

pub object-false : (t : ℕ → Bool) (o : ℕ) → any_object t ≡ false → 257 ≤ o → o ≤ 511 → t o ≡ true → ⊥
object-false t o e l h q = both_ways (any_object t) e (object-true t o l h q)

pub object-none : (t : ℕ → Bool) → ((o : ℕ) → t o ≡ true → ⊥) → any_object t ≡ false
object-none t h = grind (arith, object-some)
