-- What a chip holds, line by line, as bytes of text. Assumes nothing.
use Rattle.std.specs.Prelude.{ℕ, zero, suc, cond, ◌&&◌, List, [], ◌++◌, codes, nat_lt}
use Rattle.flash.specs.declared.chunks.Chunk.{Chunk}
use Rattle.flash.specs.declared.chunks.Chunk.TheVariants.{Blank, Damaged, Holds}
use Rattle.flash.specs.declared.chunks.Place.{Place}
use Rattle.flash.specs.declared.faults.Fault.{Fault}
use Rattle.flash.specs.declared.faults.Fault.TheVariants.{Off, NoSuchPlace}
use Rattle.flash.specs.Chunks.{look_of}
use Rattle.flash.specs.Model.{State}
use Rattle.flash.specs.Words.{place_text, look_text, fault_text}
use Rattle.lines.specs.Bytes.{data_text}

abbrev pub held_text : Chunk → List ℕ
held_text Blank = []
held_text Damaged = []
held_text (Holds r) = data_text r.bytes

abbrev pub fault_answer : Fault → List ℕ
fault_answer f = codes "fault " ++ fault_text f

-- what a call that reads a place tells: this text, where the chip is on and has the place
abbrev pub at_place : State → Place → List ℕ → List ℕ
at_place s q told = cond s.on (cond (nat_lt q.block s.n && nat_lt q.chunk s.p) told (fault_answer NoSuchPlace)) (fault_answer Off)

-- a look
abbrev pub looked_text : State → Place → List ℕ
looked_text s q = at_place s q (look_text (look_of (s.cells q.block q.chunk)) ++ held_text (s.cells q.block q.chunk))

abbrev pub chunk_line : State → Place → List ℕ
chunk_line s q = (place_text q ++ codes ": ") ++ (looked_text s q ++ codes "\n")

-- the lines of the first c chunks of block b, and of the first b blocks
abbrev pub block_lines : State → ℕ → ℕ → List ℕ
block_lines s b zero = []
block_lines s b (suc c) = block_lines s b c ++ chunk_line s (record { block = b; chunk = c })

abbrev pub chip_lines : State → ℕ → List ℕ
chip_lines s zero = []
chip_lines s (suc b) = chip_lines s b ++ block_lines s b s.p
