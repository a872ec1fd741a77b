use Rattle.rules.proofs.Changes.{adding-is-right}
use Rattle.rules.proofs.laws.adding_is_right.Goals as goal

pub returns : goal.returns
returns c = adding-is-right
