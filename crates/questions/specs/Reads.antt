-- Reading a file's bytes into a buffer. Assumes nothing.
use Rattle.std.specs.Prelude.{◌≡◌, ℕ, ◌-◌, ◌*◌, ◌<◌, min, List, ◌++◌, length, drop, Some, None, Ok, Err, Option, Result}
use Rattle.std.specs.Option.{option_map}
use Rattle.flash.specs.declared.chunks.Chunk.{Chunk}
use Rattle.flash.specs.declared.chunks.Chunk.TheVariants.{Blank, Damaged, Holds}
use Rattle.flash.specs.declared.chunks.Look.{Look}
use Rattle.flash.specs.declared.chunks.Look.TheVariants.{Record as record_l}
use Rattle.flash.specs.declared.chunks.Sizes.{Sizes}
use Rattle.flash.specs.declared.faults.Fault.{Fault}
use Rattle.flash.specs.Blocks.{standing}
use Rattle.flash.specs.Chunks.{look_of}
use Rattle.flash.specs.Model.{State, tab, blocks_of}
use Rattle.rules.specs.Calls.{byte_in, read_count, read_into}
use Rattle.rules.specs.Laws.{Unique}
use Rattle.rules.specs.Reading.{File, files, size, bytes_in}
use Rattle.tags.specs.declared.finds.Found.{Found}
use Rattle.scan.specs.Scans.{AllWhole}
use Rattle.scan.specs.Tables.{TableOf, row_of}

-- the bytes of the record that a chunk holds: as many as its byte count
abbrev pub counted : Chunk → Option (List ℕ)
counted Blank = None
counted Damaged = None
counted (Holds r) = bytes_in (Some r)

-- the bytes of a file's chunk that was found, or none where it is missing
abbrev pub counted_at : State → Option Found → Option (List ℕ)
counted_at s None = None
counted_at s (Some f) = counted (row_of s f.place)

-- what was found has a row
abbrev pub HasRow : Sizes → Option Found → Type 0
HasRow z None = Unit {0}
HasRow z (Some f) = f.place < z.blocks * z.chunks

-- what was found stands in its row
abbrev pub Stands : State → Option Found → Type 0
Stands s None = Unit {0}
Stands s (Some f) = (f.place < s.n * s.p) × (look_of (row_of s f.place) ≡ record_l f.tag)

-- a buffer with n bytes laid over its front, and the bytes beyond as they were
abbrev pub laid : (ℕ → ℕ) → ℕ → ℕ → List ℕ → List ℕ
laid byte pos n was = tab byte pos n ++ drop n was

-- a chunk's bytes from an offset on, as many as the part of the buffer holds or a chunk has; it is not refused
abbrev pub ChunkRead : Option (List ℕ) → ℕ → List ℕ → Result ℕ Fault → List ℕ → Type 0
ChunkRead bytes offset was (Ok n) is = (n ≡ min (length was) (2048 - offset)) × (is ≡ laid (byte_in bytes) offset n was)
ChunkRead bytes offset was (Err e) is = ⊥

-- what a read leans on: the table tells of the chip, every record is whole, and records with one serial are equal
pub record Readable (s : State) (z : Sizes) (rows : List Look) : Type 0 where
  pub table : TableOf s z rows
  pub whole : AllWhole s
  pub unique : Unique (standing (blocks_of s))

-- the object is a present file of this size
abbrev pub HasSize : State → ℕ → ℕ → Type 0
HasSize s o n = option_map size (files (standing (blocks_of s)) o) ≡ Some n

-- a read of a file: the number of bytes, and the buffer afterwards; it is not refused
abbrev pub ReadFrom : File → ℕ → List ℕ → Result ℕ Fault → List ℕ → Type 0
ReadFrom f pos was (Ok n) is = (n ≡ read_count f pos (length was)) × (is ≡ read_into f pos was)
ReadFrom f pos was (Err e) is = ⊥
