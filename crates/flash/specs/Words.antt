-- The words for what a chip holds and refuses, as bytes of text. Assumes nothing.
use Rattle.std.specs.Prelude.{ℕ, ◌/◌, ◌%◌, false, List, [], ◌∷◌, ◌++◌, codes, decimal}
use Rattle.std.specs.Fmt.{digit_glyph}
use Rattle.flash.specs.declared.chunks.Place.{Place}
use Rattle.flash.specs.declared.chunks.Tag.{Tag}
use Rattle.flash.specs.declared.chunks.Look.{Look}
use Rattle.flash.specs.declared.chunks.Look.TheVariants.{Blank, Damaged, Record}
use Rattle.flash.specs.declared.faults.Act.{Act}
use Rattle.flash.specs.declared.faults.Act.TheVariants.{Adding, Copying, Erasing}
use Rattle.flash.specs.declared.faults.Fault.{Fault}
use Rattle.flash.specs.declared.faults.Fault.TheVariants.{Off, NoSuchPlace, NotBlank, SupplyFailed, NoRecord}
use Rattle.flash.specs.declared.faults.Misfit.{Misfit}
use Rattle.flash.specs.declared.faults.Misfit.TheVariants.{Mark, Version, Length}

abbrev pub place_text : Place → List ℕ
place_text q = codes "block " ++ (decimal q.block ++ (codes ", chunk " ++ decimal q.chunk))

-- a byte in two hexadecimal digits, and a number of 32 bits in eight
abbrev pub hex_text : ℕ → List ℕ
hex_text b = digit_glyph false (b / 16) ∷ digit_glyph false (b % 16) ∷ []

abbrev pub word_text : ℕ → List ℕ
word_text n = codes "0x" ++ (hex_text (n / 16777216 % 256) ++ (hex_text (n / 65536 % 256) ++ (hex_text (n / 256 % 256) ++ hex_text (n % 256))))

-- a record's four numbers
abbrev pub tag_text : Tag → List ℕ
tag_text t = word_text t.first ++ (codes " " ++ (word_text t.second ++ (codes " " ++ (decimal t.third ++ (codes " " ++ decimal t.serial)))))

abbrev pub look_text : Look → List ℕ
look_text Blank = codes "blank"
look_text Damaged = codes "damaged"
look_text (Record t) = codes "record " ++ tag_text t

abbrev pub act_text : Act → List ℕ
act_text (Adding q) = codes "adding at " ++ place_text q
act_text (Copying q) = codes "copying to " ++ place_text q
act_text (Erasing b) = codes "erasing block " ++ decimal b

-- a refusal: its number and what it says
abbrev pub fault_text : Fault → List ℕ
fault_text Off = codes "4, the chip is off"
fault_text NoSuchPlace = codes "5, no such block or chunk"
fault_text NotBlank = codes "6, the chunk or a later one of its block is not blank"
fault_text (SupplyFailed a) = codes "7, the supply failed while " ++ act_text a
fault_text NoRecord = codes "8, no record there"

abbrev pub misfit_text : Misfit → List ℕ
misfit_text Mark = codes "1, under 8 bytes or not marked TFS"
misfit_text Version = codes "2, the version is not 1"
misfit_text Length = codes "3, the length does not match the numbers of blocks and chunks"
