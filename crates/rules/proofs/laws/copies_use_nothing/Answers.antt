use Rattle.rules.proofs.Guarding.{copies-use-nothing}
use Rattle.rules.proofs.laws.copies_use_nothing.Goals as goal

pub returns : goal.returns
returns c = copies-use-nothing
