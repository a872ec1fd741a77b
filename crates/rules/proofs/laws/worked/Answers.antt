use Rattle.rules.proofs.Table.{worked}
use Rattle.rules.proofs.laws.worked.Goals as goal

pub returns : goal.returns
returns c = worked
