-- What making a chip gives, and what each call leaves in its bytes. Assumes nothing.
use Rattle.std.specs.Prelude.{◌≡◌, ℕ, List, Ok, Err, vec_items, MatchBool, Result, Vec, slice_set}
use Rattle.std.specs.declared.alloc.Global.{Global}
use Rattle.flash.specs.declared.chunks.Place.{Place}
use Rattle.flash.specs.declared.chunks.Record.{Record}
use Rattle.flash.specs.declared.faults.Fault.{Fault}
use Rattle.flash.specs.declared.faults.Fault.TheVariants.{Off, NoSuchPlace, NotBlank, SupplyFailed, NoRecord}
use Rattle.flash.specs.declared.faults.Unmade.{Unmade}
use Rattle.flash.specs.Faults.{misfit_number}
use Rattle.flash.specs.Model.{State}
use Rattle.image.specs.declared.images.ImageChip.{ImageChip}
use Rattle.image.specs.Codes.{programmed, Cleared}
use Rattle.image.specs.Format.{misfit, well_made, chunk_count, start_of, chip_of, no_chip, image_of}

abbrev pub bytes_of : ImageChip → List ℕ
bytes_of s = vec_items s.bytes

-- the bytes are the chip's whole meaning
abbrev pub state_of : ImageChip → State
state_of s = image_of (bytes_of s)

-- a chip made has the memory handed over; in spite of a misfit it has no blocks, and the smallest number that fits is told
abbrev pub Made : Vec ℕ Global → Result ImageChip (Unmade ImageChip) → Type 0
Made v (Ok s) = (misfit (vec_items v) ≡ 0) × (s.bytes ≡ v) × (state_of s ≡ chip_of (vec_items v))
Made v (Err e) = (misfit (vec_items v) ≡ misfit_number e.why) × (e.chip.bytes ≡ v) × (state_of e.chip ≡ no_chip)

-- any refusal but 7: the supply never fails
abbrev pub Unfailing : Fault → Type 0
Unfailing Off = Unit {0}
Unfailing NoSuchPlace = Unit {0}
Unfailing NotBlank = Unit {0}
Unfailing (SupplyFailed a) = ⊥
Unfailing NoRecord = Unit {0}

-- program writes the record's bytes to its chunk; refused, it changes nothing
abbrev pub ProgramLeaves : ImageChip → Place → Record → Result (Unit {0}) Fault → ImageChip → Type 0
ProgramLeaves s q r (Ok u) t = bytes_of t ≡ programmed (bytes_of s) (start_of (chunk_count (bytes_of s)) q.block q.chunk) r
ProgramLeaves s q r (Err f) t = Unfailing f × (t ≡ s)

-- erase sets the state byte of every chunk of the block, and the data stays; refused, it changes nothing
abbrev pub EraseLeaves : ImageChip → ℕ → Result (Unit {0}) Fault → ImageChip → Type 0
EraseLeaves s b (Ok u) t = Cleared (bytes_of s) (chunk_count (bytes_of s)) b (chunk_count (bytes_of s)) (bytes_of t)
EraseLeaves s b (Err f) t = Unfailing f × (t ≡ s)

-- restart sets the power byte of an image; bytes that are no image stay as they are
abbrev pub RestartLeaves : ImageChip → ImageChip → Type 0
RestartLeaves s t = MatchBool (well_made (bytes_of s)) (bytes_of t ≡ slice_set (bytes_of s) 7 1) (t ≡ s)
