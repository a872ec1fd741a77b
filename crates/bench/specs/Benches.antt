-- What a bench chip is, and how it is made. Assumes nothing.
use Rattle.std.specs.Prelude.{◌≡◌, ℕ, ◌+◌, ◌*◌, Bool, true, false, ◌≢◌, List, Ok, Err, vec_items, vec_len, Result, Vec, slice_index_or}
use Rattle.std.specs.declared.alloc.Global.{Global}
use Rattle.flash.specs.declared.chunks.Chunk.{Chunk}
use Rattle.flash.specs.declared.chunks.Chunk.TheVariants.{Blank}
use Rattle.flash.specs.declared.chunks.Sizes.{Sizes}
use Rattle.flash.specs.declared.faults.Misfit.TheVariants.{Length}
use Rattle.flash.specs.declared.faults.Unmade.{Unmade}
use Rattle.flash.specs.Model.{State}
use Rattle.bench.specs.declared.benches.BenchChip.{BenchChip}
use Rattle.bench.specs.declared.plans.Plan.{Plan}

-- chunk c of block b stands in row b × p + c
abbrev pub cell_at : List Chunk → ℕ → ℕ → ℕ → Chunk
cell_at rows p b c = slice_index_or rows (b * p + c) Blank

-- the chip that it is
abbrev pub state_of : BenchChip → State
state_of s = record { n = s.sizes.blocks; p = s.sizes.chunks; on = s.on; cells = cell_at (vec_items s.rows) s.sizes.chunks }

-- made of these rows, with the whole plan to come
pub record Fresh (rows : Vec Chunk Global) (z : Sizes) (power : Bool) (q : Plan) (s : BenchChip) : Type 0 where
  pub rows_are : s.rows ≡ rows
  pub sizes_are : s.sizes ≡ z
  pub power_is : s.on ≡ power
  pub plan_is : s.plan ≡ q
  pub count_is : s.left ≡ q.fails

-- off; where the rows are not N × P (3), on and with N and P 0
abbrev pub Made : Vec Chunk Global → Sizes → Plan → Result BenchChip (Unmade BenchChip) → Type 0
Made rows z q (Ok s) = (vec_len rows ≡ z.blocks * z.chunks) × Fresh rows z false q s
Made rows z q (Err e) = (vec_len rows ≢ z.blocks * z.chunks) × (e.why ≡ Length) × Fresh rows (record { blocks = 0; chunks = 0 }) true q e.chip
