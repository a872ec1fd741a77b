-- What is wrong with the plan is wrong with the line.
use Rattle.std.proofs.lemmas.Result.{err_from_is_err_and}
use Rattle.std.proofs.Common.{inr, rules}
use Rattle.scripts.proofs.parsing.bench_plan.Goals as goal

pub returns-in_err-plan : goal.returns-in_err-plan
returns-in_err-plan c = let p = err_from_is_err_and c.from_residual-in_err-plan.result c.from_residual-in_err-plan.ensures.1 in rw (p.1, p.2) (inr (search rules, inr (search rules, c.in_err-plan.ensures)))
