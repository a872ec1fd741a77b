-- The rules' words for searches through a list, in the library's. Assumes nothing.
use Rattle.std.proofs.Common.{◌≡◌, ℕ, Bool, List, [], ◌∷◌, Option, sym, refl, ◌∙◌, arith}
use Rattle.std.proofs.lemmas.List.Recursion.{is_count_by}
use Rattle.std.proofs.lemmas.Bool.Decides.{nat_tests}
use Rattle.std.proofs.lemmas.Grind.{common_steps}
use Rattle.std.specs.List.{position, count_by}
use Rattle.rules.specs.Lists.{first_where, count}

where_by : {A : Type 0} (t : A → Bool) (xs : List A) → first_where t xs ≡ position t xs
where_by t [] = refl
where_by t (x ∷ xs) = grind (arith, nat_tests, common_steps, where_by t xs)

pub found : {A : Type 0} (t : A → Bool) (xs : List A) (r : Option ℕ) → r ≡ position t xs → r ≡ first_where t xs
found t xs r e = e ∙ sym (where_by t xs)

pub counted : {A : Type 0} (t : A → Bool) (xs : List A) (k : ℕ) → k ≡ count_by t xs → k ≡ count t xs
counted t xs k e = e ∙ sym (is_count_by (count t) t refl (λ y ys. grind (arith, nat_tests, common_steps)) xs)
