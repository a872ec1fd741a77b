-- What a look tells of a chunk, and what every record has. Assumes nothing.
use Rattle.std.specs.Prelude.{◌≡◌, ◌^◌, ◌<◌, length, Some, None, Option}
use Rattle.flash.specs.declared.chunks.Record.{Record}
use Rattle.flash.specs.declared.chunks.Tag.{Tag}
use Rattle.flash.specs.declared.chunks.Chunk.{Chunk}
use Rattle.flash.specs.declared.chunks.Chunk.TheVariants.{Blank as BlankC, Damaged as DamagedC, Holds}
use Rattle.flash.specs.declared.chunks.Look.{Look}
use Rattle.flash.specs.declared.chunks.Look.TheVariants.{Blank, Damaged, Record as RecordL}

-- a look tells what a chunk is, with a record's four numbers
abbrev pub look_of : Chunk → Look
look_of BlankC = Blank
look_of DamagedC = Damaged
look_of (Holds r) = RecordL r.tag

-- the four numbers of the record that a look tells of
abbrev pub tag_in : Look → Option Tag
tag_in Blank = None
tag_in Damaged = None
tag_in (RecordL t) = Some t

-- a record is four numbers of 32 bits and 2,048 data bytes
pub record Whole (r : Record) : Type 0 where
  pub first : r.tag.first < 2 ^ 32
  pub second : r.tag.second < 2 ^ 32
  pub third : r.tag.third < 2 ^ 32
  pub serial : r.tag.serial < 2 ^ 32
  pub bytes : length r.bytes ≡ 2048

-- whatever record a chunk holds is whole
abbrev pub WholeChunk : Chunk → Type 0
WholeChunk x = (r : Record) → x ≡ Holds r → Whole r
