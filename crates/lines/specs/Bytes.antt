-- Bytes of a record, as bytes of text. Assumes nothing.
use Rattle.std.specs.Prelude.{ℕ, cond, ◌&&◌, List, [], ◌∷◌, ◌++◌, take, codes, nat_le}
use Rattle.std.specs.List.{flat_map}
use Rattle.flash.specs.Words.{hex_text}

-- each byte in hexadecimal digits
abbrev pub hexes_text : List ℕ → List ℕ
hexes_text xs = flat_map (λ x. codes " " ++ hex_text x) xs

-- each byte as a letter, or a dot where it is none
abbrev pub letter_of : ℕ → ℕ
letter_of x = cond (nat_le 32 x && nat_le x 126) x 46

abbrev pub letters_text : List ℕ → List ℕ
letters_text xs = flat_map (λ x. letter_of x ∷ []) xs

-- the first 16 bytes of a record's data, both ways
abbrev pub data_text : List ℕ → List ℕ
data_text xs = codes ", data" ++ (hexes_text (take 16 xs) ++ (codes " |" ++ (letters_text (take 16 xs) ++ codes "|")))
