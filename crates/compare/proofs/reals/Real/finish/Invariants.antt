-- each turn gives one ticket back
use Rattle.std.proofs.Common.{vec_len}
use Rattle.compare.proofs.reals.Real.finish.Given as goal

abbrev pub decreases-loop-ticket : goal.decreases-loop-ticket
decreases-loop-ticket g l = vec_len l.tickets
