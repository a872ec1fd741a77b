use Rattle.std.proofs.Common.{Decides, rules}
use Rattle.names.specs.Names.{entries_of, name_at, Taken}
use Rattle.names.proofs.Taken.{taken-from}
use Rattle.names.proofs.Mirrored.{taken-mirrored}
use Rattle.names.proofs.entries.Names.taken.Goals as goal

pub returns : goal.returns
unfolding name_at
returns c =
    let es = entries_of c.args.self.now in
    let d : Decides c.any.result (Taken es c.args.object c.args.name.now) = taken-from es _ _ _ (search rules) in
    record { other = d; files = λ fs m. taken-mirrored es fs m _ _ _ d }
