-- The count of acts over a run of calls. Assumes nothing.
use Rattle.std.proofs.Common.{◌≡◌, ℕ, ◌+◌, ◌-◌, eqb, ◌≢◌, List, [], ◌∷◌, sym, ap, ◌∙◌, ⊎_elim, arith}
use Rattle.std.proofs.lemmas.Bool.{eq-eqb, ne_eqb, cases_eq}
use Rattle.bench.specs.declared.benches.BenchChip.{BenchChip}
use Rattle.bench.specs.Laws.{Came, refused, restart, act, Changes, Run, act_is, acts, FailsAsPlanned}

step-plan : (x : Came) (s t : BenchChip) → Changes x s t → t.plan ≡ s.plan
step-plan refused s t h = ap (λ (u : BenchChip). u.plan) h
step-plan restart s t h = h.plan_stays
step-plan act s t h = h.plan_stays

step_count : (x : Came) (s t : BenchChip) → Changes x s t → t.left ≡ s.left - act_is x
step_count refused s t h = let e : t.left ≡ s.left = ap (λ (u : BenchChip). u.left) h in omega arith
step_count restart s t h = let e : t.left ≡ s.left = h.count_stays in omega arith
step_count act s t h = h.count_falls

run-plan : (xs : List Came) (s t : BenchChip) → Run xs s t → t.plan ≡ s.plan
run-plan [] s t h = ap (λ (u : BenchChip). u.plan) h
run-plan (x ∷ xs) s t h = run-plan xs h.0 t h.2 ∙ step-plan x s h.0 h.1

run-count : (xs : List Came) (s t : BenchChip) → Run xs s t → t.left ≡ s.left - acts xs
run-count [] s t h = let e : t.left ≡ s.left = ap (λ (u : BenchChip). u.left) h in omega arith
run-count (x ∷ xs) s t h = omega (arith, run-count xs h.0 t h.2, step_count x s h.0 h.1)

-- the count is 1 where the next act is the planned one
next-is : (f k : ℕ) → eqb (f - k) 1 ≡ eqb f (k + 1)
next-is f k = ⊎_elim
    (λ (x : f ≡ k + 1). let y : f - k ≡ 1 = omega arith in eq-eqb (f - k) 1 y ∙ sym (eq-eqb f (k + 1) x))
    (λ (x : f ≡ k + 1 → ⊥). let y : (f - k) ≢ 1 = λ e. x (omega (arith, e)) in ne_eqb (f - k) 1 y ∙ sym (ne_eqb f (k + 1) x))
    (cases_eq f (k + 1))

pub fails-as-planned : FailsAsPlanned
fails-as-planned rows z power q s t xs m r = (
  run-plan xs s t r ∙ m.plan_is,
  ap (λ (n : ℕ). eqb n 1) (let e : t.left ≡ q.fails - acts xs = run-count xs s t r ∙ ap (λ (n : ℕ). n - acts xs) m.count_is in e) ∙ next-is q.fails (acts xs),
)
