use Rattle.std.proofs.Common.{rules}
use Rattle.table.proofs.Loading.{load-from}
use Rattle.table.proofs.loads.load.Goals as goal

pub returns : goal.returns
returns c = λ n long in'. load-from c.args.chunks c.args.block n c.args.looks.now long in' c.block_of.result c.map_or.result c.block_of.ensures (search rules)
