-- Letters, as bytes of text. Assumes nothing.
use Rattle.std.proofs.Common.{◌≡◌, ℕ, List, [], ◌∷◌, map, refl, arith}
use Rattle.std.proofs.Math.Utf8.{encodes}
use Rattle.std.proofs.lemmas.Str.{encode_ascii}
use Rattle.lines.specs.Bytes.{letter_of, letters_text}

-- each is one byte
pub spelled : (xs : List ℕ) → encodes (map letter_of xs) ≡ letters_text xs
spelled [] = refl
spelled (x ∷ xs) = rw (encode_ascii (letter_of x) (grind arith), spelled xs) refl
