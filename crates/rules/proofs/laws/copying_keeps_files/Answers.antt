use Rattle.rules.proofs.Blocks.{copying-keeps-files}
use Rattle.rules.proofs.laws.copying_keeps_files.Goals as goal

pub returns : goal.returns
returns c = copying-keeps-files
