use Rattle.std.proofs.Common.{arith}
use Rattle.rules.proofs.Whole.{holding-suffices}
use Rattle.rules.proofs.laws.holding_suffices.Goals as goal

pub returns : goal.returns
returns c = holding-suffices 2048 (omega arith)
