use Rattle.rules.proofs.Guarding.{wanted-guards}
use Rattle.rules.proofs.laws.wanted_guards.Goals as goal

pub returns : goal.returns
returns c = wanted-guards
