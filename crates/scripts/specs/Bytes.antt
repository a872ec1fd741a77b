-- Bytes as words. Assumes nothing.
use Rattle.std.specs.Prelude.{◌≡◌, ℕ, ◌+◌, ◌-◌, ◌*◌, ◌%◌, Bool, cond, ◌&&◌, List, [], ◌∷◌, length, replicate, take, drop, Some, None, Option, ◌==◌, nat_le, slice_index}
use Rattle.std.specs.List.{list_all}
use Rattle.std.specs.Option.{unwrap_or, is_some}
use Rattle.scripts.specs.declared.bytes.Data.{Data}
use Rattle.scripts.specs.declared.bytes.Data.TheVariants.{Hex, Repeat}
use Rattle.scripts.specs.Numbers.{value_of, number_of}

abbrev pub is_digit : ℕ → Bool
is_digit c = is_some (value_of c)

-- hexadecimal digits, an even number of them
abbrev pub is_hexes : List ℕ → Bool
is_hexes cs = (length cs % 2 == 0) && list_all is_digit cs

abbrev pub nibble : ℕ → ℕ
nibble c = unwrap_or (value_of c) 0

abbrev pub pair_of : ℕ → ℕ → ℕ
pair_of a b = nibble a * 16 + nibble b

-- a byte for each two digits
abbrev pub hex_bytes : List ℕ → List ℕ
hex_bytes [] = []
hex_bytes (a ∷ []) = []
hex_bytes (a ∷ b ∷ cs) = pair_of a b ∷ hex_bytes cs

abbrev pub bytes_in : Data → List ℕ
bytes_in (Hex w) = hex_bytes w.now
bytes_in (Repeat n b) = replicate n b

-- what the digits a and b write, as often as a word says
abbrev pub repeated : ℕ → ℕ → Option ℕ → Option (List ℕ)
repeated a b None = None
repeated a b (Some n) = cond (is_hexes (a ∷ b ∷ [])) (Some (replicate n (pair_of a b))) None

abbrev pub repeat_of : List ℕ → ℕ → ℕ → Option (List ℕ)
repeat_of count a b = repeated a b (number_of count)

-- an x stands third from the end
abbrev pub is_repeat : List ℕ → Bool
is_repeat w = nat_le 3 (length w) && (slice_index w (length w - 3) == 120)

abbrev pub is_dash : List ℕ → Bool
is_dash w = (length w == 1) && (slice_index w 0 == 45)

-- the bytes that a word writes: none as -, or as NNxBB, or in hexadecimal
abbrev pub data_of : List ℕ → Option (List ℕ)
data_of w = cond (is_dash w) (Some [])
    (cond (is_repeat w) (repeat_of (take (length w - 3) w) (slice_index (drop (length w - 3) w) 1) (slice_index (drop (length w - 3) w) 2))
    (cond (is_hexes w) (Some (hex_bytes w)) None))

-- these bytes, if there are any
abbrev pub WritesData : Option (List ℕ) → Option Data → Type 0
WritesData o None = o ≡ None
WritesData o (Some d) = o ≡ Some (bytes_in d)
