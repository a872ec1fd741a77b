-- A table of a chip: what a look tells of each chunk, in rising place. Assumes nothing.
use Rattle.std.specs.Prelude.{◌≡◌, ℕ, ◌/◌, ◌%◌, true, List, Ok, Err, Option, Result, slice_index_or}
use Rattle.flash.specs.declared.chunks.Chunk.{Chunk}
use Rattle.flash.specs.declared.chunks.Chunk.TheVariants.{Blank, Holds}
use Rattle.flash.specs.declared.chunks.Look.{Look}
use Rattle.flash.specs.declared.chunks.Place.{Place}
use Rattle.flash.specs.declared.chunks.Record.{Record}
use Rattle.flash.specs.declared.chunks.Sizes.{Sizes}
use Rattle.flash.specs.declared.chunks.Tag.{Tag}
use Rattle.flash.specs.declared.faults.Fault.{Fault}
use Rattle.flash.specs.Chunks.{look_of, tag_in}
use Rattle.flash.specs.Model.{State, blocks_of}
use Rattle.flash.specs.Reads.{Sized, Within}
use Rattle.scan.specs.Flat.{flat, looks_of}

-- the chip is on, has these sizes, and the rows tell of its chunks
pub record TableOf (s : State) (z : Sizes) (rows : List Look) : Type 0 where
  pub on : s.on ≡ true
  pub sizes : Sized s z
  pub mirror : rows ≡ looks_of (blocks_of s)

-- the chunk that row k tells of
abbrev pub row_of : State → ℕ → Chunk
row_of s k = slice_index_or (flat (blocks_of s)) k Blank

-- the four numbers of the record that row k tells of
abbrev pub tag_at : State → ℕ → Option Tag
tag_at s k = tag_in (look_of (row_of s k))

-- where the chunk of row k stands
pub record PlaceOf (s : State) (k : ℕ) (q : Place) : Type 0 where
  pub block : q.block ≡ k / s.p
  pub chunk : q.chunk ≡ k % s.p
  pub within : Within s q
  pub here : s.cells q.block q.chunk ≡ row_of s k

-- row k tells of a record with these four numbers, and its data bytes are these
pub record HasData (s : State) (k : ℕ) (t : Tag) (bytes : List ℕ) : Type 0 where
  pub found : Record
  pub here : row_of s k ≡ Holds found
  pub tag : found.tag ≡ t
  pub copied : bytes ≡ found.bytes

abbrev pub DataOf : State → ℕ → Tag → Result (List ℕ) Fault → Type 0
DataOf s k t (Ok d) = HasData s k t d
DataOf s k t (Err f) = ⊥
