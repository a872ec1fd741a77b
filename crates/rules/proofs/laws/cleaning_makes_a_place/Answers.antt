use Rattle.rules.proofs.Cleaning.{cleaning-makes-a-place}
use Rattle.rules.proofs.laws.cleaning_makes_a_place.Goals as goal

pub returns : goal.returns
returns c = cleaning-makes-a-place
