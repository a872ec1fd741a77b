use Rattle.rules.proofs.Cleaning.{cleaning-is-safe}
use Rattle.rules.proofs.laws.cleaning_is_safe.Goals as goal

pub returns : goal.returns
returns c = cleaning-is-safe
