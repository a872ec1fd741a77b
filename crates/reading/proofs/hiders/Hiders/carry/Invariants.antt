use Rattle.reading.proofs.Hiding.{Carrying}
use Rattle.reading.proofs.hiders.Hiders.carry.Given as goal

abbrev pub invariant-loop-serial : goal.invariant-loop-serial
invariant-loop-serial l = Carrying l.initial.serial-items l.serial-index l.most l.serial-items
