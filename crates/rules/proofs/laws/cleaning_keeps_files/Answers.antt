use Rattle.rules.proofs.Failing.{cleaning-keeps-files}
use Rattle.rules.proofs.laws.cleaning_keeps_files.Goals as goal

pub returns : goal.returns
returns c = cleaning-keeps-files
