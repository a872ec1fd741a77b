use Rattle.std.proofs.Common.{◌≡◌}
use Rattle.reading.proofs.Hiding.{Noting}
use Rattle.reading.proofs.hiders.Hiders.tell.Given as goal

abbrev pub invariant-loop-tag : goal.invariant-loop-tag
invariant-loop-tag l = record { of : l.self.object ≡ l.fn.self.object; noted : Noting l.fn.self.object l.yielded l.self.serials }
