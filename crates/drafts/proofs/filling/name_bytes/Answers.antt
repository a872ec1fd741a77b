use Rattle.std.proofs.Common.{length}
use Rattle.std.proofs.lemmas.Bool.{and_parts, leb-true}
use Rattle.drafts.proofs.Padding.{name_bytes_is}
use Rattle.drafts.proofs.filling.name_bytes.Goals as goal

pub returns : goal.returns
returns c = λ w.
    name_bytes_is 2047 c.min-count.result 40 c.args.name.now c.copy_from_slice.new.self
    (leb-true (length c.args.name.now) 40 (and_parts _ _ w).1) c.min-count.ensures c.copy_from_slice.ensures.after
