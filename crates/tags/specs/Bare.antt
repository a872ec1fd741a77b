-- What a table of looks tells of the records: their tags, with the data left out. Assumes nothing.
use Rattle.std.specs.Prelude.{List, [], map}
use Rattle.flash.specs.declared.chunks.Tag.{Tag}
use Rattle.flash.specs.declared.chunks.Record.{Record}
use Rattle.flash.specs.declared.chunks.Chunk.{Chunk}
use Rattle.flash.specs.declared.chunks.Chunk.TheVariants.{Blank, Damaged, Holds}
use Rattle.flash.specs.declared.chunks.Look.{Look}
use Rattle.flash.specs.declared.chunks.Look.TheVariants.{Blank as blank_l, Damaged as damaged_l, Record as record_l}
use Rattle.flash.specs.Blocks.{records_of}

-- a record with this tag and no data bytes
abbrev pub bare_tag : Tag → Record
bare_tag t = record { tag = t; bytes = [] }

-- a record with its data left out
abbrev pub bare : Record → Record
bare r = bare_tag r.tag

-- what a look tells, as a chunk
abbrev pub bare_of : Look → Chunk
bare_of blank_l = Blank
bare_of damaged_l = Damaged
bare_of (record_l t) = Holds (bare_tag t)

abbrev pub bares : List Look → List Chunk
bares looks = map bare_of looks

-- the records that a table tells of, by rising place
abbrev pub records : List Look → List Record
records looks = records_of (bares looks)
