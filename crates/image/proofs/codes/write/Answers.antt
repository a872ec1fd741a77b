use Rattle.std.proofs.Common.{rules}
use Rattle.image.proofs.Coded.{written}
use Rattle.image.proofs.codes.write.Goals as goal

pub returns-clause-value : goal.returns-clause-value
returns-clause-value c =
    written c.args.chunk.now c.copy_from_slice.new.self c.copy_from_slice-2.new.self c.args.record.now c.requires (search rules) (search rules) (search rules)
