-- What the digits of a text write. Assumes nothing.
use Rattle.std.proofs.Common.{◌≡◌, ℕ, ◌+◌, ◌-◌, ◌*◌, ◌<◌, min, cond, true, false, List, [], ◌∷◌, length, Some, None, Result, refl, arith, rules}
use Rattle.std.proofs.lemmas.Str.Parse.{IsNumeralModel, numerals_by_fold, parse_digits}
use Rattle.std.specs.List.{list_all}
use Rattle.std.specs.Result.{result_unwrap_or}
use Rattle.std.specs.Str.Parse.{ParsesUnsigned}
use Rattle.words.specs.Numbers.{is_digit, read_on, number_of}

-- the number that digits write after n, however large
abbrev pub follow : ℕ → List ℕ → ℕ
follow n [] = n
follow n (c ∷ cs) = follow (10 * n + (c - 48)) cs

own : IsNumeralModel (λ ds. list_all is_digit ds ≡ true) (follow 0)
own = numerals_by_fold _ (search rules) follow (search rules)

read_by_all : (n : ℕ) (cs : List ℕ) → read_on n cs ≡ cond (list_all is_digit cs) (Some (min (follow n cs) 4294967295)) None
read_by_all n [] = refl
read_by_all n (c ∷ cs) = grind (arith, read_by_all (10 * n + (c - 48)) cs)

pub other_text : (t : List ℕ) → list_all is_digit t ≡ false → None ≡ number_of t
other_text [] h = refl
other_text (c ∷ cs) h = search (rules, read_by_all 0 (c ∷ cs))

pub digits_text : {E : Type 0} (t : List ℕ) (r : Result ℕ E) → 0 < length t → list_all is_digit t ≡ true → ParsesUnsigned 32 10 t r → Some (result_unwrap_or r 4294967295) ≡ number_of t
digits_text [] r l h p = absurd (omega arith)
digits_text (c ∷ cs) r l h p =
    let t = c ∷ cs in
    grind (arith, parse_digits own 32 t r p h, read_by_all 0 t)
