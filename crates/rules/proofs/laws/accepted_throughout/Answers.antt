use Rattle.std.proofs.Common.{arith}
use Rattle.rules.proofs.Whole.{accepted-throughout}
use Rattle.rules.proofs.laws.accepted_throughout.Goals as goal

pub returns : goal.returns
returns c = accepted-throughout 2048 (omega arith)
