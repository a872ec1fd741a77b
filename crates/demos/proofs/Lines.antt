-- Lines, one after another. Assumes nothing.
use Rattle.std.proofs.Common.{◌≡◌, ℕ, List, [], ◌∷◌, ◌++◌, append_assoc, map, refl, ◌⊎◌, inl, inr, ap, ◌∙◌}
use Rattle.rules.specs.Calls.{Call}
use Rattle.store.specs.declared.making.Answer.{Answer}
use Rattle.store.specs.declared.making.Call.{Call as Wanted}
use Rattle.store.specs.Making.{call_told}
use Rattle.demos.specs.Telling.{call_lines}

no-answers : (calls : List Call) → call_lines calls [] ≡ []
no-answers [] = refl
no-answers (call ∷ calls) = refl

-- no call is left, or no answer
pub no_more : (calls : List Wanted) (answers : List Answer) → (calls ≡ []) ⊎ (answers ≡ []) → call_lines (map call_told calls) answers ≡ []
no_more calls answers (inl e) = ap (λ (cs : List Wanted). call_lines (map call_told cs) answers) e
no_more calls answers (inr e) = ap (call_lines (map call_told calls)) e ∙ no-answers (map call_told calls)

-- a text that grew by a, and by the rest after it
pub more : (before between a rest after : List ℕ) → between ≡ before ++ a → after ≡ between ++ rest → after ≡ before ++ (a ++ rest)
more before between a rest after e h = h ∙ ap (λ (x : List ℕ). x ++ rest) e ∙ append_assoc before a rest

pub from_start : (before rest after : List ℕ) → before ≡ [] → after ≡ before ++ rest → after ≡ rest
from_start before rest after e h = h ∙ ap (λ (x : List ℕ). x ++ rest) e
