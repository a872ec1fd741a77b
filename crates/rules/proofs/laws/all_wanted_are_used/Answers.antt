use Rattle.rules.proofs.Guarding.{all-wanted-are-used}
use Rattle.rules.proofs.laws.all_wanted_are_used.Goals as goal

pub returns : goal.returns
returns c = all-wanted-are-used
