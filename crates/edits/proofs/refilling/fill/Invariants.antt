use Rattle.std.proofs.Common.{◌≡◌, ◌+◌, ◌*◌, ◌<◌, length, drop}
use Rattle.store.specs.Stored.{stored}
use Rattle.edits.specs.Writing.{Filled}
use Rattle.edits.proofs.refilling.fill.Given as goal

abbrev pub invariant-loop-rest : goal.invariant-loop-rest
invariant-loop-rest g l =
    record {
      filled : Filled (stored l.fn.store) l.ticket.object l.content l.number l.counts (stored l.store);
      left : l.rest ≡ drop (l.number * 2048) l.content;
      room : l.number * 2048 < length l.content + 2048;
    }

abbrev pub decreases-loop-rest : goal.decreases-loop-rest
decreases-loop-rest g l = length l.rest
