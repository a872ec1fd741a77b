-- Numbers as words. Assumes nothing.
use Rattle.std.specs.Prelude.{ℕ, ◌+◌, ◌-◌, ◌*◌, min, Bool, cond, ◌&&◌, List, [], ◌∷◌, Some, None, Option, nat_le}

abbrev pub is_digit : ℕ → Bool
is_digit c = nat_le 48 c && nat_le c 57

-- read on after n; none at anything but a digit
abbrev pub read_on : ℕ → List ℕ → Option ℕ
read_on n [] = Some (min n 4294967295)
read_on n (c ∷ cs) = cond (is_digit c) (read_on (10 * n + (c - 48)) cs) None

-- the number that one digit or more write, at most 2^32 - 1
abbrev pub number_of : List ℕ → Option ℕ
number_of [] = None
number_of (c ∷ cs) = read_on 0 (c ∷ cs)
