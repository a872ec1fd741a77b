use Rattle.scan.proofs.Telling.{row_in, row_place}
use Rattle.scan.proofs.tables.Entry.place.Goals as goal

pub place_of-requires : goal.place_of-requires
place_of-requires g c = row_in c.args.self.now.scan.now.table c.args.self.now.row c.args.self.now.there

pub returns : goal.returns
returns g c = row_place c.args.self.now.scan.now.table c.args.self.now.row c.place_of.result c.args.self.now.there c.place_of.ensures.block c.place_of.ensures.chunk
