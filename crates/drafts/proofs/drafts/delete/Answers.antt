use Rattle.std.proofs.Common.{arith}
use Rattle.drafts.proofs.drafts.delete.Goals as goal

pub returns : goal.returns
returns c = λ fs o. let t = c.head_tag.ensures o in let p = c.padded.ensures (omega arith) in cc
