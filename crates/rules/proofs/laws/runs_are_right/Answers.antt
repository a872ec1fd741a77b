use Rattle.std.proofs.Common.{arith}
use Rattle.rules.proofs.Whole.{runs-are-right}
use Rattle.rules.proofs.laws.runs_are_right.Goals as goal

pub returns : goal.returns
returns c = runs-are-right 2048 (omega arith)
