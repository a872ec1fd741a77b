use Rattle.std.proofs.Common.{rules}
use Rattle.rules.specs.Mounting.{limit as most_used}
use Rattle.rules.proofs.limits.limit.Goals as goal

pub returns : goal.returns
unfolding most_used
returns c = search rules
