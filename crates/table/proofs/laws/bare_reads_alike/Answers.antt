use Rattle.table.proofs.Alikes.{bare-reads-alike, sizes-alike}
use Rattle.table.proofs.BareBlocks.{blocks-alike}
use Rattle.table.proofs.laws.bare_reads_alike.Goals as goal

pub returns : goal.returns
returns c = record { reads = bare-reads-alike; sizes = sizes-alike; loads = blocks-alike }
