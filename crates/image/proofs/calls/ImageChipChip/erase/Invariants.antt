use Rattle.std.proofs.Common.{vec_items}
use Rattle.image.proofs.Changes.{Clearing}
use Rattle.image.proofs.calls.ImageChipChip.erase.Given as goal

abbrev pub invariant-loop-chunk : goal.invariant-loop-chunk
invariant-loop-chunk l = Clearing (vec_items l.fn.self.bytes) l.head.chunks l.block l.chunk (vec_items l.self.bytes)
