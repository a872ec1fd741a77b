use Rattle.std.proofs.Common.{vec_items, rules}
use Rattle.image.proofs.States.{found-at}
use Rattle.image.proofs.images.ImageChip.find.Goals as goal

pub returns : goal.returns
returns c =
    found-at (vec_items c.args.self.now.bytes) c.args.at c.head-head.result c.start_of.result c.head-head.ensures (search rules) (search rules) (search rules) c.start_of.ensures
