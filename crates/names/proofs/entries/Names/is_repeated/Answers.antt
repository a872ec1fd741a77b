use Rattle.std.proofs.Common.{rules}
use Rattle.names.specs.Names.{entries_of}
use Rattle.names.proofs.Taken.{later-from}
use Rattle.names.proofs.entries.Names.is_repeated.Goals as goal

pub returns : goal.returns
returns c = later-from (entries_of c.args.self.now) c.iter.result.rest.now _ c.args.place _ c.in-Some.name (search rules) c.in-Some.is (rw (← c.deref.ensures.value) c.iter.ensures.rest) (search rules)
