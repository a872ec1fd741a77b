-- The third number is the first wrong one.
use Rattle.std.proofs.lemmas.Result.{err_from_is_err_and}
use Rattle.std.proofs.Common.{inl, inr, rules, ◌≡◌, ◌+◌, arith}
use Rattle.scripts.proofs.parsing.plan.Goals as goal

pub returns-in_err-long-3 : goal.returns-in_err-long-3
returns-in_err-long-3 c =
    let p = err_from_is_err_and c.from_residual-in_err-long-3.result c.from_residual-in_err-long-3.ensures.1 in
    let same : c.args.at + 2 ≡ c.args.at + 1 + 1 = omega arith in
    rw (p.1, p.2) (inr (search rules, inr (search rules, inl (rw same at c.in_err-long-3.ensures))))
