-- A number at the right of a column. Assumes nothing.
use Rattle.std.proofs.Common.{◌≡◌, ℕ, ◌-◌, ◌^◌, false, List, [], ◌++◌, length, ap, ◌∙◌, arith, codes}
use Rattle.std.proofs.lemmas.List.{append-nil}
use Rattle.std.specs.Fmt.{padded_integral, format_spec, char_count}
use Rattle.std.specs.List.{repeat}

pub aligned : (w : ℕ) (t : List ℕ) → padded_integral (format_spec 32 3 0 w (2 ^ 64 - 1)) false [] t ≡ repeat (w - length t) (codes " ") ++ t
unfolding padded_integral char_count lib.Utf8.encode
aligned w t =
    let same : w - length t - 0 - 0 ≡ w - length t = omega arith in
    let none : (w - length t) - (w - length t) ≡ 0 = omega arith in
    let bare : ((repeat (w - length t) (codes " ") ++ []) ++ []) ++ [] ≡ repeat (w - length t) (codes " ") = append-nil _ ∙ append-nil _ ∙ append-nil _ in
    rw (same, none, append-nil t) (ap (λ (xs : List ℕ). xs ++ t) bare)
