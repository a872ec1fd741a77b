use Rattle.std.proofs.Common.{rules}
use Rattle.table.proofs.Loading.{row-from}
use Rattle.table.proofs.loads.makes_load.Goals as goal

pub returns : goal.returns
returns c = λ n long in' in''. row-from c.args.chunks c.args.block n c.args.looks.now long in' c.block_of.result c.args.chunk c.is_some_and.result in'' c.block_of.ensures (search rules)
