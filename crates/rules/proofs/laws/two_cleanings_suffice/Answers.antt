use Rattle.std.proofs.Common.{arith}
use Rattle.rules.proofs.Whole.{two-cleanings-suffice}
use Rattle.rules.proofs.laws.two_cleanings_suffice.Goals as goal

pub returns : goal.returns
returns c = two-cleanings-suffice 2048 (omega arith)
