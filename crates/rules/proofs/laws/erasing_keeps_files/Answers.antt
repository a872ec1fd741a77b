use Rattle.rules.proofs.Guarding.{erasing-keeps-files}
use Rattle.rules.proofs.laws.erasing_keeps_files.Goals as goal

pub returns : goal.returns
returns c = erasing-keeps-files
