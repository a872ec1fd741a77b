use Rattle.bench.proofs.Counting.{fails-as-planned}
use Rattle.bench.proofs.laws.fails_as_planned.Goals as goal

pub returns : goal.returns
returns c = fails-as-planned
