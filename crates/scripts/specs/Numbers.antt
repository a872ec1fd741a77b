-- Numbers as words. Assumes nothing.
use Rattle.std.specs.Prelude.{ℕ, ◌+◌, ◌-◌, ◌*◌, Bool, cond, ◌&&◌, List, [], ◌∷◌, length, drop, Some, None, Option, nat_le, nat_lt, ◌==◌, slice_index}

-- the value of a digit
abbrev pub value_of : ℕ → Option ℕ
value_of c = cond (nat_le 48 c && nat_le c 57) (Some (c - 48))
    (cond (nat_le 97 c && nat_le c 102) (Some (c - 87))
    (cond (nat_le 65 c && nat_le c 70) (Some (c - 55)) None))

-- a number, if it is below a limit
abbrev pub below : ℕ → Option ℕ → Option ℕ
below limit None = None
below limit (Some n) = cond (nat_lt n limit) (Some n) None

abbrev pub digit_of : ℕ → ℕ → Option ℕ
digit_of base c = below base (value_of c)

-- one digit more behind n, if there is a digit and the number fits 64 bits
abbrev pub longer : ℕ → ℕ → Option ℕ → Option ℕ
longer base n None = None
longer base n (Some d) = below 18446744073709551616 (Some (n * base + d))

-- read on behind the number that was read so far, if one was
abbrev pub follow : ℕ → Option ℕ → List ℕ → Option ℕ
follow base None cs = None
follow base (Some n) [] = Some n
follow base (Some n) (c ∷ cs) = follow base (longer base n (digit_of base c)) cs

-- the number that one digit or more write
abbrev pub written : ℕ → List ℕ → Option ℕ
written base [] = None
written base (c ∷ cs) = follow base (Some 0) (c ∷ cs)

-- 0x stands in front
abbrev pub is_prefixed : List ℕ → Bool
is_prefixed w = nat_le 2 (length w) && ((slice_index w 0 == 48) && (slice_index w 1 == 120))

-- in decimal, or behind 0x in hexadecimal; it fits 64 bits
abbrev pub long_of : List ℕ → Option ℕ
long_of w = cond (is_prefixed w) (written 16 (drop 2 w)) (written 10 w)

-- the same of 32 bits
abbrev pub number_of : List ℕ → Option ℕ
number_of w = below 4294967296 (long_of w)
