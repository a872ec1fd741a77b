-- Closing files leaves the chip.
use Rattle.std.proofs.Common.{◌≡◌, vec_len}
use Rattle.replays.specs.Machines.{seen}
use Rattle.replays.proofs.machines.Stored.release.Given as goal

abbrev pub invariant-loop-ticket : goal.invariant-loop-ticket
invariant-loop-ticket l = seen l.store.chip ≡ seen l.initial.store.chip

abbrev pub decreases-loop-ticket : goal.decreases-loop-ticket
decreases-loop-ticket l = vec_len l.tickets
