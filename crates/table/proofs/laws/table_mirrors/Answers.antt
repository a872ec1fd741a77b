use Rattle.table.proofs.BareBlocks.{load-by-rows, table-mirrors}
use Rattle.table.proofs.laws.table_mirrors.Goals as goal

pub returns : goal.returns
returns c = record { blocks = table-mirrors; rows = load-by-rows }
