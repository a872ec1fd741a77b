-- What a sparse chip is, how it is made, and what its helpers promise. Assumes nothing.
use Rattle.std.specs.Prelude.{◌≡◌, ℕ, true, false, ◌≢◌, ◌⊎◌, Option, Some, None, Ok, Err, Result, Vec, vec_items, slice_index_or}
use Rattle.std.specs.Ordering.{nat_cmp}
use Rattle.std.specs.BTreeMap.{get}
use Rattle.std.specs.declared.alloc.Global.{Global}
use Rattle.flash.specs.declared.chunks.Chunk.{Chunk}
use Rattle.flash.specs.declared.chunks.Chunk.TheVariants.{Blank}
use Rattle.flash.specs.declared.chunks.Place.{Place}
use Rattle.flash.specs.declared.chunks.Sizes.{Sizes}
use Rattle.flash.specs.Model.{State}
use Rattle.flash.specs.Reads.{Within}
use Rattle.sparse.specs.declared.chips.SparseChip.{SparseChip}
use Rattle.sparse.specs.declared.chips.NoChunks.{NoChunks}

-- a block that is not kept is blank
abbrev pub chunk_in : Option (Vec Chunk Global) → ℕ → Chunk
chunk_in None c = Blank
chunk_in (Some v) c = slice_index_or (vec_items v) c Blank

-- the chip that it is
abbrev pub state_of : SparseChip → State
state_of s = record { n = s.sizes.blocks; p = s.sizes.chunks; on = s.on; cells = λ b. chunk_in (get nat_cmp s.blocks b) }

-- a blank chip of these sizes, off; none where it would have no chunk
abbrev pub Made : Sizes → Result SparseChip NoChunks → Type 0
Made z (Ok s) = (z.blocks ≢ 0) × (z.chunks ≢ 0) × (state_of s ≡ record { n = z.blocks; p = z.chunks; on = false; cells = λ b c. Blank })
Made z (Err e) = (z.blocks ≡ 0) ⊎ (z.chunks ≡ 0)

-- the chunk at a place of a chip that is on
pub record IsChunk (s : State) (q : Place) (x : Chunk) : Type 0 where
  pub ready : s.on ≡ true
  pub within : Within s q
  pub is : x ≡ s.cells q.block q.chunk
