use Rattle.rules.proofs.Counting.{used-by-files}
use Rattle.rules.proofs.laws.used_by_files.Goals as goal

pub returns : goal.returns
returns c = used-by-files
