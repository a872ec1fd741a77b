-- What a scan finds. Assumes nothing.
use Rattle.std.specs.Prelude.{◌≡◌, ℕ, ◌/◌, ◌%◌, ◌<◌, List, Ok, Err, Result, slice_index_or}
use Rattle.flash.specs.declared.chunks.Look.{Look}
use Rattle.flash.specs.declared.chunks.Look.TheVariants.{Blank}
use Rattle.flash.specs.declared.faults.Fault.{Fault}
use Rattle.flash.specs.Chunks.{look_of, WholeChunk}
use Rattle.flash.specs.Model.{State, blocks_of}
use Rattle.scan.specs.Flat.{looks_of}

-- every record on the chip is whole
abbrev pub AllWhole : State → Type 0
AllWhole s = (b c : ℕ) → b < s.n → c < s.p → WholeChunk (s.cells b c)

-- the first i chunks, in rising place, have been looked at
pub record ScannedTo (s : State) (i : ℕ) (xs : List Look) : Type 0 where
  pub seen : (k : ℕ) → k < i → slice_index_or xs k Blank ≡ look_of (s.cells (k / s.p) (k % s.p))
  pub whole : (k : ℕ) → k < i → WholeChunk (s.cells (k / s.p) (k % s.p))

-- a scan of a chip that is on is not refused, and finds what every chunk is
abbrev pub Scanned : State → Result (Unit {0}) Fault → List Look → Type 0
Scanned s (Ok u) xs = (xs ≡ looks_of (blocks_of s)) × AllWhole s
Scanned s (Err f) xs = ⊥
