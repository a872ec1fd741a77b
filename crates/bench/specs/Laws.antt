-- The planned act fails and no other, over whole runs of calls, as a statement. Assumes nothing.
use Rattle.std.specs.Prelude.{◌≡◌, ℕ, ◌+◌, Bool, List, [], ◌∷◌, Vec, ◌==◌}
use Rattle.std.specs.declared.alloc.Global.{Global}
use Rattle.flash.specs.declared.chunks.Chunk.{Chunk}
use Rattle.flash.specs.declared.chunks.Sizes.{Sizes}
use Rattle.bench.specs.declared.benches.BenchChip.{BenchChip}
use Rattle.bench.specs.declared.plans.Plan.{Plan}
use Rattle.bench.specs.Benches.{Fresh}
use Rattle.bench.specs.Acts.{due, Acted, Restarted}

-- what a call came to: it was refused, a restart, or an act
pub data Came : Type 0 where
  refused : Came
  restart : Came
  act : Came

abbrev pub Changes : Came → BenchChip → BenchChip → Type 0
Changes refused s t = t ≡ s
Changes restart s t = Restarted s t
Changes act s t = Acted s t

-- calls one after another lead from s to t
abbrev pub Run : List Came → BenchChip → BenchChip → Type 0
Run [] s t = t ≡ s
Run (x ∷ xs) s t = (u : BenchChip) × Changes x s u × Run xs u t

abbrev pub act_is : Came → ℕ
act_is refused = 0
act_is restart = 0
act_is act = 1

abbrev pub acts : List Came → ℕ
acts [] = 0
acts (x ∷ xs) = act_is x + acts xs

-- after any calls on a chip that was made with a plan, it has the plan, and the next act fails where the plan counts it
abbrev pub FailsAsPlanned : Type 0
FailsAsPlanned = (rows : Vec Chunk Global) (z : Sizes) (power : Bool) (q : Plan) (s t : BenchChip) (xs : List Came)
    → Fresh rows z power q s → Run xs s t → (t.plan ≡ q) × (due t ≡ (q.fails == acts xs + 1))
