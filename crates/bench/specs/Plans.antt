-- What the act that fails leaves, by the plan. Assumes nothing.
use Rattle.std.specs.Prelude.{ℕ, ◌/◌, ◌%◌, ◌^◌, Bool, false, cond, ◌==◌, nat_lt}
use Rattle.flash.specs.declared.chunks.Chunk.{Chunk}
use Rattle.flash.specs.declared.chunks.Chunk.TheVariants.{Damaged}
use Rattle.bench.specs.declared.plans.Plan.{Plan}

-- bit c of a word; from 64 up it is 0
abbrev pub bit : ℕ → ℕ → Bool
bit w c = cond (nat_lt c 64) (w / 2 ^ c % 2 == 1) false

-- what then stands in chunk c: its new content, else damage, else the old
abbrev pub outcome : Plan → ℕ → Chunk → Chunk → Chunk
outcome q c old new = cond (bit q.takes c) new (cond (bit q.damages c) Damaged old)
