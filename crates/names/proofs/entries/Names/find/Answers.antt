use Rattle.std.proofs.Common.{rules}
use Rattle.names.specs.Names.{entries_of, name_at}
use Rattle.names.proofs.Mirrored.{find-mirrored}
use Rattle.names.proofs.entries.Names.find.Goals as goal

pub returns-clause-files : goal.returns-clause-files
unfolding name_at
returns-clause-files c fs m = find-mirrored (entries_of c.args.self.now) fs m _ _ (search rules)
