-- Words for lists and for numbers from a range. Assumes nothing.
use Rattle.std.specs.Prelude.{◌≡◌, ℕ, suc, ◌+◌, max, Bool, true, false, cond, ◌&&◌, ◌||◌, ◌⊎◌, List, [], ◌∷◌, Some, None, Option, ◌==◌, nat_le}

-- low to high, both in
abbrev pub within : ℕ → ℕ → ℕ → Bool
within low high k = nat_le low k && nat_le k high

-- x is among the elements
abbrev pub Among : {A : Type 0} → A → List A → Type 0
Among x [] = ⊥
Among x (y ∷ ys) = (y ≡ x) ⊎ Among x ys

-- some element passes the test
abbrev pub any : {A : Type 0} → (A → Bool) → List A → Bool
any t [] = false
any t (x ∷ xs) = t x || any t xs

-- those that pass the test
abbrev pub cons_if : {A : Type 0} → Bool → A → List A → List A
cons_if true x xs = x ∷ xs
cons_if false x xs = xs

abbrev pub keep : {A : Type 0} → (A → Bool) → List A → List A
keep t [] = []
keep t (x ∷ xs) = cons_if (t x) x (keep t xs)

-- how many pass the test
abbrev pub count : {A : Type 0} → (A → Bool) → List A → ℕ
count t [] = 0
count t (x ∷ xs) = cond (t x) 1 0 + count t xs

-- the largest value, or 0
abbrev pub largest : {A : Type 0} → (A → ℕ) → List A → ℕ
largest f [] = 0
largest f (x ∷ xs) = max (f x) (largest f xs)

-- the place of the first that passes the test
abbrev pub next_if : Bool → Option ℕ → Option ℕ
next_if true k = Some 0
next_if false None = None
next_if false (Some k) = Some (suc k)

abbrev pub first_where : {A : Type 0} → (A → Bool) → List A → Option ℕ
first_where t [] = None
first_where t (x ∷ xs) = let later = first_where t xs in next_if (t x) later

abbrev pub is_there : {A : Type 0} → Option A → Bool
is_there None = false
is_there (Some x) = true

abbrev pub or_else : {A : Type 0} → Option A → Option A → Option A
or_else None y = y
or_else (Some x) y = Some x

-- lists of bytes are the same
abbrev pub same_bytes : List ℕ → List ℕ → Bool
same_bytes [] [] = true
same_bytes [] (y ∷ ys) = false
same_bytes (x ∷ xs) [] = false
same_bytes (x ∷ xs) (y ∷ ys) = x == y && same_bytes xs ys
