use Rattle.std.proofs.Common.{map, ◌≡◌, take, drop}
use Rattle.store.specs.Stored.{stored}
use Rattle.store.specs.Making.{call_told}
use Rattle.runs.specs.Runs.{Tells, just_mounted}
use Rattle.runs.proofs.SoFar.{SoFar}
use Rattle.runs.proofs.runs.run.Given as goal

abbrev pub invariant-loop-at : goal.invariant-loop-at
invariant-loop-at g l =
    record {
      so_far : SoFar Tells (just_mounted (stored l.fn.store)) (map call_told (take l.at l.calls)) (take l.at l.answers) (stored l.store);
      beyond : drop l.count l.answers ≡ drop l.count l.fn.answers;
    }
