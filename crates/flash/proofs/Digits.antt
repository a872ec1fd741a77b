-- The eight hexadecimal digits of a number of 32 bits. Assumes nothing.
use Rattle.std.proofs.Common.{◌≡◌, ℕ, zero, suc, ◌+◌, ◌-◌, ◌/◌, ◌%◌, ◌^◌, ◌<◌, ◌≤◌, false, List, [], ◌∷◌, ◌++◌, length, replicate, refl, sym, ap, ◌∙◌, ⊎_elim, append_assoc, add-one, arith}
use Rattle.std.specs.Fmt.{digits, digits_onto, digit_glyph, padded_integral, format_spec, char_count}
use Rattle.std.proofs.lemmas.Bool.{cases_eq, eq-eqb, ne_eqb}
use Rattle.std.proofs.lemmas.List.{append-nil, replicate_more}
use Rattle.std.proofs.Math.Nat.{pow-suc, sub-zero}
use Rattle.flash.specs.Words.{hex_text}

-- the last k digits of n, and then acc
onto : ℕ → ℕ → List ℕ → List ℕ
onto zero n acc = acc
onto (suc k) n acc = onto k (n / 16) (digit_glyph false (n % 16) ∷ acc)

zeros : (k : ℕ) (acc : List ℕ) → onto k 0 acc ≡ replicate k 48 ++ acc
unfolding onto
zeros zero acc = refl
zeros (suc k) acc = zeros k (48 ∷ acc) ∙ sym (append_assoc (replicate k 48) (48 ∷ []) acc) ∙ ap (λ (xs : List ℕ). xs ++ acc) (replicate_more k 48 ∙ ap (λ (i : ℕ). replicate i 48) (add-one k))

-- zeros, and then the digits: j + 1 in all, where the number has no more
fills : (j k w n : ℕ) (acc : List ℕ) → j ≤ k → n < 16 ^ suc j → w ≡ suc j + length acc
    → replicate (w - length (digits_onto (suc k) 16 false n acc)) 48 ++ digits_onto (suc k) 16 false n acc ≡ onto (suc j) n acc
unfolding onto
fills zero k w n acc b h e =
    let z : n / 16 ≡ 0 = omega arith in
    let none : w - length (digit_glyph false (n % 16) ∷ acc) ≡ 0 = omega arith in
    rw (eq-eqb (n / 16) 0 z, none) refl
fills (suc j) zero w n acc b h e = absurd (omega arith)
fills (suc j) (suc k) w n acc b h e =
    let g = digit_glyph false (n % 16) in
    ⊎_elim
    (λ z. let some : w - length (g ∷ acc) ≡ suc j = omega arith in rw (eq-eqb (n / 16) 0 z, some, z) (sym (zeros (suc j) (g ∷ acc))))
    (λ z. rw (ne_eqb (n / 16) 0 z) (fills j k w (n / 16) (g ∷ acc) (omega arith) (omega (arith, pow-suc 16 (suc j))) (omega arith)))
    (cases_eq (n / 16) 0)

bytes : (k n : ℕ) (acc : List ℕ) → onto (suc (suc k)) n acc ≡ onto k (n / 256) (hex_text (n % 256) ++ acc)
unfolding onto
bytes k n acc =
    let low : n % 16 ≡ n % 256 % 16 = omega arith in
    let high : n / 16 % 16 ≡ n % 256 / 16 = omega arith in
    let rest : n / 16 / 16 ≡ n / 256 = omega arith in
    rw (low, high, rest) refl

all-bytes : (n : ℕ) → onto 8 n [] ≡ hex_text (n / 16777216 % 256) ++ (hex_text (n / 65536 % 256) ++ (hex_text (n / 256 % 256) ++ hex_text (n % 256)))
unfolding onto
all-bytes n =
    let third : n / 256 / 256 ≡ n / 65536 = omega arith in
    let fourth : n / 65536 / 256 ≡ n / 16777216 = omega arith in
    bytes 6 n [] ∙ bytes 4 (n / 256) (hex_text (n % 256) ++ []) ∙ rw third (bytes 2 (n / 65536) (hex_text (n / 256 % 256) ++ (hex_text (n % 256) ++ [])) ∙ rw fourth (bytes 0 _ _))

padded : (ds : List ℕ) → padded_integral (format_spec 32 0 4 8 (2 ^ 64 - 1)) false [] ds ≡ replicate (8 - length ds) 48 ++ ds
unfolding padded_integral char_count
padded ds = simp (sub-zero, append-nil)

-- what `{:08x}` writes
pub hex_word : (n : ℕ) → n < 2 ^ 32 → padded_integral (format_spec 32 0 4 8 (2 ^ 64 - 1)) false [] (digits 16 false n)
    ≡ hex_text (n / 16777216 % 256) ++ (hex_text (n / 65536 % 256) ++ (hex_text (n / 256 % 256) ++ hex_text (n % 256)))
unfolding digits
hex_word n h = padded (digits_onto 64 16 false n []) ∙ fills 7 63 8 n [] (omega arith) h refl ∙ all-bytes n
