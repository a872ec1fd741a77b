use Rattle.rules.proofs.Guarding.{copies-count-once}
use Rattle.rules.proofs.laws.copies_count_once.Goals as goal

pub returns : goal.returns
returns c = copies-count-once
