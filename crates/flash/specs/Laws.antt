-- What each change of a chip makes of its list of blocks, as statements. Assumes nothing.
use Rattle.std.specs.Prelude.{◌≡◌, ℕ, ◌<◌, List, [], length, slice_index_or, slice_set}
use Rattle.flash.specs.declared.chunks.Chunk.{Chunk}
use Rattle.flash.specs.declared.chunks.Chunk.TheVariants.{Blank}
use Rattle.flash.specs.Model.{State, blocks_of}
use Rattle.flash.specs.Blocks.{chunk_at, put_at, erase_at}
use Rattle.flash.specs.Writes.{Put, BlockChanged, IsBlank, LeftByErase}

-- chunk by chunk
abbrev pub Listed : Type 0
Listed = (s : State) (b c : ℕ) → b < s.n → c < s.p → chunk_at (blocks_of s) b c ≡ s.cells b c

-- a chunk put
abbrev pub PutListed : Type 0
PutListed = (s t : State) (b c : ℕ) (v : Chunk) → b < s.n → c < s.p → Put s b c v t → blocks_of t ≡ put_at (blocks_of s) b c v

-- a block erased
abbrev pub EraseListed : Type 0
EraseListed = (s t : State) (b : ℕ) → b < s.n → BlockChanged IsBlank s b t → blocks_of t ≡ erase_at (blocks_of s) b

-- a block whose erase failed: each chunk of it, singly, as it was, damaged or blank
pub record LeftBlock (s : State) (b : ℕ) (t : State) : Type 0 where
  pub left : List Chunk
  pub long : length left ≡ length (slice_index_or (blocks_of s) b [])
  pub each : (c : ℕ) → c < s.p → LeftByErase (chunk_at (blocks_of s) b c) (slice_index_or left c Blank)
  pub after : blocks_of t ≡ slice_set (blocks_of s) b left

abbrev pub FailListed : Type 0
FailListed = (s t : State) (b : ℕ) → b < s.n → BlockChanged LeftByErase s b t → LeftBlock s b t
