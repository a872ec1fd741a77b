use Rattle.rules.proofs.Shrinking.{wanted-suffices}
use Rattle.rules.proofs.laws.wanted_suffices.Goals as goal

pub returns : goal.returns
returns c = wanted-suffices
