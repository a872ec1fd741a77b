use Rattle.replays.proofs.Padding.{padded_is}
use Rattle.replays.proofs.calls.padded.Goals as goal

pub returns : goal.returns
returns c = λ l. padded_is 2048 c.min-count.result c.args.bytes.now c.copy_from_slice.new.self l c.min-count.ensures c.copy_from_slice.ensures.after
