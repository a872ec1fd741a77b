-- What a test over a list, the newest and the largest of a list depend on: what is among its elements. Assumes nothing.
use Rattle.std.proofs.Common.{◌≡◌, ℕ, ◌≤◌, Bool, true, false, List, [], ◌∷◌, Some, None, Option, refl, ap, inl, inr, arith}
use Rattle.flash.specs.declared.chunks.Record.{Record}
use Rattle.rules.specs.Lists.{Among, any, largest, keep, cons_if}
use Rattle.rules.specs.Reading.{newest}
use Rattle.rules.specs.Laws.{Unique}

module _ {A : Type 0} (t : A → Bool) where
  pub any-true : (xs : List A) → any t xs ≡ true → (x : A) × Among x xs × (t x ≡ true)
  any-true [] e = cc
  any-true (y ∷ ys) e = grind (arith, any-true ys)

  pub any-from : (xs : List A) (x : A) → Among x xs → t x ≡ true → any t xs ≡ true
  any-from [] x a e = absurd a
  any-from (y ∷ ys) x (inl p) e = grind arith
  any-from (y ∷ ys) x (inr a) e = grind (arith, any-from ys x a e)

  pub any_false : (xs : List A) (x : A) → any t xs ≡ false → Among x xs → t x ≡ true → ⊥
  any_false xs x e a h = grind (arith, any-from)

  pub any_none : (xs : List A) → ((x : A) → Among x xs → t x ≡ true → ⊥) → any t xs ≡ false
  any_none xs f = grind (arith, any-true)

-- two tests over two lists come out alike
pub any_same : {A : Type 0} (t t' : A → Bool) (xs ys : List A)
    → ((x : A) → Among x xs → t x ≡ true → any t' ys ≡ true)
    → ((y : A) → Among y ys → t' y ≡ true → any t xs ≡ true)
    → any t xs ≡ any t' ys
any_same {A} t t' xs ys f g = grind (arith, any-true)

-- r is the newest of those that pass
pub record Newest (t : Record → Bool) (rs : List Record) (r : Record) : Type 0 where
  pub stands : Among r rs
  pub passes : t r ≡ true
  pub most : (s : Record) → Among s rs → t s ≡ true → s.tag.serial ≤ r.tag.serial

abbrev pub Found : (Record → Bool) → List Record → Option Record → Type 0
Found t rs None = (s : Record) → Among s rs → t s ≡ true → ⊥
Found t rs (Some r) = Newest t rs r

pub newest-found : (t : Record → Bool) (rs : List Record) → Found t rs (newest t rs)
newest-found t [] = λ s a h. a
newest-found t (x ∷ xs) = grind (arith, newest-found t xs)

pub found_none : (t : Record → Bool) (rs : List Record) (m : Option Record) → Found t rs m → ((s : Record) → Among s rs → t s ≡ true → ⊥) → m ≡ None
found_none t rs k n f = grind arith

pub found_some : (t : Record → Bool) (rs : List Record) (m : Option Record) → Found t rs m → (r : Record) → Newest t rs r
    → ((s : Record) → Among s rs → t s ≡ true → s.tag.serial ≡ r.tag.serial → s ≡ r) → m ≡ Some r
found_some t rs k n r n' u = grind arith

-- the newest of two lists is one, if that of the first stands in the second, and the second has nothing else
pub newest_same : (t : Record → Bool) (rs rs' : List Record) → Unique rs → ((r : Record) → Newest t rs r → Among r rs') → ((r : Record) → Among r rs' → Among r rs) → newest t rs ≡ newest t rs'
newest_same t rs rs' u f g = search (arith, newest-found, found_none)

-- the largest value
module _ {A : Type 0} where
  pub largest-least : (f : A → ℕ) (xs : List A) (k : ℕ) → ((x : A) → Among x xs → f x ≤ k) → largest f xs ≤ k
  largest-least f [] k h = omega arith
  largest-least f (y ∷ ys) k h = grind (arith, largest-least f ys k (λ x a. h x (inr a)))

  pub largest-most : (f : A → ℕ) (xs : List A) (x : A) → Among x xs → f x ≤ largest f xs
  largest-most f [] x a = absurd a
  largest-most f (y ∷ ys) x (inl p) = omega (arith, ap f p)
  largest-most f (y ∷ ys) x (inr a) = omega (arith, largest-most f ys x a)

  pub largest-same : (f g : A → ℕ) (xs ys : List A) → ((x : A) → Among x xs → f x ≤ largest g ys) → ((y : A) → Among y ys → g y ≤ largest f xs) → largest f xs ≡ largest g ys
  largest-same f g xs ys h k = grind (arith, largest-least)

  -- what a filter keeps
  pub keep-among : (t : A → Bool) (xs : List A) (x : A) → Among x xs → t x ≡ true → Among x (keep t xs)
  keep-among t [] x a e = a
  keep-among t (y ∷ ys) x a e = at (t y) refl (λ b. keep-among t ys x b e) a
    where
      at : (c : Bool) → t y ≡ c → (Among x ys → Among x (keep t ys)) → Among x (y ∷ ys) → Among x (cons_if c y (keep t ys))
      at k h rest m = grind arith

  pub keep-from : (t : A → Bool) (xs : List A) (x : A) → Among x (keep t xs) → Among x xs × (t x ≡ true)
  keep-from t [] x a = absurd a
  keep-from t (y ∷ ys) x a = grind (arith, keep-from t ys x)
