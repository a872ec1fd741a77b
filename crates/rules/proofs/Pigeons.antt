-- A list without repeats that maps one-to-one into another is no longer than it. Assumes nothing.
use Rattle.std.proofs.Common.{◌≡◌, suc, ◌≤◌, List, [], ◌∷◌, length, sym, refl, ap, ◌∙◌, inl, inr, arith}
use Rattle.rules.specs.Lists.{Among}

-- no element twice
abbrev pub Apart : {A : Type 0} → List A → Type 0
Apart [] = Unit {0}
Apart (x ∷ xs) = (Among x xs → ⊥) × Apart xs

module _ {B : Type 0} where
  -- a list less one element, at the place where it stands
  abbrev less : (y : B) (ys : List B) → Among y ys → List B
  less y [] a = []
  less y (z ∷ zs) (inl p) = zs
  less y (z ∷ zs) (inr a) = z ∷ less y zs a

  less-length : (y : B) (ys : List B) (a : Among y ys) → length ys ≡ suc (length (less y ys a))
  less-length y [] a = absurd a
  less-length y (z ∷ zs) (inl p) = refl
  less-length y (z ∷ zs) (inr a) = ap suc (less-length y zs a)

  less-keeps : (y : B) (ys : List B) (a : Among y ys) (x : B) → Among x ys → (y ≡ x → ⊥) → Among x (less y ys a)
  less-keeps y [] a x b n = absurd b
  less-keeps y (z ∷ zs) (inl p) x (inl q) n = absurd (n (sym p ∙ q))
  less-keeps y (z ∷ zs) (inl p) x (inr b) n = b
  less-keeps y (z ∷ zs) (inr a) x (inl q) n = inl q
  less-keeps y (z ∷ zs) (inr a) x (inr b) n = inr (less-keeps y zs a x b n)

pub pigeons : {A B : Type 0} (f : A → B) (xs : List A) (ys : List B) → Apart xs
    → ((x : A) → Among x xs → Among (f x) ys)
    → ((x x' : A) → Among x xs → Among x' xs → f x ≡ f x' → x ≡ x')
    → length xs ≤ length ys
pigeons f [] ys d into one = omega arith
pigeons {A} f (x ∷ xs) ys d into one =
    omega (arith, less-length (f x) ys here, pigeons f xs (less (f x) ys here) d.1 (grind (arith, less-keeps, here, other)) (λ z z' a a' e. one z z' (inr a) (inr a') e))
  where
    here : Among (f x) ys
    here = into x (inl refl)

    other : (z : A) → Among z xs → f x ≡ f z → ⊥
    other z a e = grind arith
