-- When a bench chip fails, and what then stands. An act is a program or an erase that is not refused. Assumes nothing.
use Rattle.std.specs.Prelude.{◌≡◌, ℕ, ◌+◌, ◌-◌, ◌*◌, ◌<◌, ◌≤◌, Bool, true, false, cond, not, ◌⊎◌, List, length, Ok, Err, vec_items, Result, ◌==◌, slice_index_or, slice_set}
use Rattle.flash.specs.declared.chunks.Record.{Record}
use Rattle.flash.specs.declared.chunks.Chunk.{Chunk}
use Rattle.flash.specs.declared.chunks.Chunk.TheVariants.{Blank, Holds}
use Rattle.flash.specs.declared.chunks.Place.{Place}
use Rattle.flash.specs.declared.faults.Fault.{Fault}
use Rattle.flash.specs.declared.faults.Fault.TheVariants.{Off, NoSuchPlace, NotBlank, SupplyFailed, NoRecord}
use Rattle.bench.specs.declared.benches.BenchChip.{BenchChip}
use Rattle.bench.specs.Plans.{outcome}
use Rattle.bench.specs.Benches.{cell_at}

-- the next act fails
abbrev pub due : BenchChip → Bool
due s = s.left == 1

-- what the next act leaves in chunk c: its new content or, where it fails, what the plan says
abbrev pub left_in : BenchChip → ℕ → Chunk → Chunk → Chunk
left_in s c old new = cond (due s) (outcome s.plan c old new) new

-- sizes and plan stay, one act fewer is to come, and the chip is off where the act failed
pub record Acted (s t : BenchChip) : Type 0 where
  pub sizes_stay : t.sizes ≡ s.sizes
  pub plan_stays : t.plan ≡ s.plan
  pub count_falls : t.left ≡ s.left - 1
  pub power_is : t.on ≡ not (due s)

-- a program changes the row of its place
pub record ProgramActs (s : BenchChip) (q : Place) (r : Record) (t : BenchChip) : Type 0 where
  pub acted : Acted s t
  pub rows_are : vec_items t.rows ≡ slice_set (vec_items s.rows) (q.block * s.sizes.chunks + q.chunk)
      (left_in s q.chunk (cell_at (vec_items s.rows) s.sizes.chunks q.block q.chunk) (Holds r))

-- in block b of p chunks, each chunk below c is what f makes of it; every other row stays
pub record Remade (f : ℕ → Chunk → Chunk) (p b c : ℕ) (xs ys : List Chunk) : Type 0 where
  pub count_same : length ys ≡ length xs
  pub here : (j : ℕ) → j < c → cell_at ys p b j ≡ f j (cell_at xs p b j)
  pub there : (i : ℕ) → (i < b * p) ⊎ (b * p + c ≤ i) → slice_index_or ys i Blank ≡ slice_index_or xs i Blank

-- an erase changes the rows of its block
pub record EraseActs (s : BenchChip) (b : ℕ) (t : BenchChip) : Type 0 where
  pub acted : Acted s t
  pub rows_are : Remade (λ c x. left_in s c x Blank) s.sizes.chunks b s.sizes.chunks (vec_items s.rows) (vec_items t.rows)

-- a refused call changes nothing, the act that is due fails and no other does; P is what an act changes
abbrev pub ByPlan : BenchChip → Result (Unit {0}) Fault → BenchChip → Type 0 → Type 0
ByPlan s (Ok u) t P = (due s ≡ false) × P
ByPlan s (Err Off) t P = t ≡ s
ByPlan s (Err NoSuchPlace) t P = t ≡ s
ByPlan s (Err NotBlank) t P = t ≡ s
ByPlan s (Err (SupplyFailed a)) t P = (due s ≡ true) × P
ByPlan s (Err NoRecord) t P = ⊥

-- a restart switches on and changes nothing else
pub record Restarted (s t : BenchChip) : Type 0 where
  pub rows_stay : t.rows ≡ s.rows
  pub sizes_stay : t.sizes ≡ s.sizes
  pub plan_stays : t.plan ≡ s.plan
  pub count_stays : t.left ≡ s.left
  pub power_is : t.on ≡ true
