use Rattle.std.proofs.Common.{arith}
use Rattle.rules.proofs.Whole.{steps-are-right}
use Rattle.rules.proofs.laws.steps_are_right.Goals as goal

pub returns : goal.returns
returns c = steps-are-right 2048 (omega arith)
