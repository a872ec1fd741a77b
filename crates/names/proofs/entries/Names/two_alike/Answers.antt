use Rattle.std.proofs.Common.{Decides, rules}
use Rattle.names.specs.Names.{entries_of, name_at, Alike}
use Rattle.names.proofs.Taken.{repeated-from}
use Rattle.names.proofs.Mirrored.{alike-mirrored}
use Rattle.names.proofs.entries.Names.two_alike.Goals as goal

pub returns : goal.returns
unfolding name_at
returns c =
    let es = entries_of c.args.self.now in
    let d : Decides c.any.result (Alike es) = repeated-from es _ (search rules) in
    record { alike = d; files = λ fs m. alike-mirrored es fs m _ d }
