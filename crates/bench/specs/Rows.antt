-- What the helpers of the calls promise. Assumes nothing.
use Rattle.std.specs.Prelude.{◌≡◌, ℕ, ◌+◌, ◌-◌, ◌*◌, ◌<◌, ◌≤◌, true, List, length, Ok, Err, vec_len, Result, slice_index_or}
use Rattle.std.specs.declared.ops.Range.{Range}
use Rattle.flash.specs.declared.chunks.Chunk.{Chunk}
use Rattle.flash.specs.declared.chunks.Chunk.TheVariants.{Blank}
use Rattle.flash.specs.declared.chunks.Place.{Place}
use Rattle.flash.specs.declared.faults.Fault.{Fault}
use Rattle.flash.specs.Reads.{Within, NotLooked}
use Rattle.bench.specs.declared.benches.BenchChip.{BenchChip}
use Rattle.bench.specs.Benches.{state_of}
use Rattle.bench.specs.Acts.{Acted}

-- every chunk of a list is blank
abbrev pub AllBlank : List Chunk → Type 0
AllBlank xs = (k : ℕ) → k < length xs → slice_index_or xs k Blank ≡ Blank

-- the row of a place
pub record IsRow (s : BenchChip) (q : Place) (i : ℕ) : Type 0 where
  pub ready : s.on ≡ true
  pub within : Within (state_of s) q
  pub row_is : i ≡ q.block * s.sizes.chunks + q.chunk
  pub block_fits : i + (s.sizes.chunks - q.chunk) ≤ vec_len s.rows

-- the row, or what a look there would answer: 4 off, then 5 no such place
abbrev pub FoundRow : BenchChip → Place → Result ℕ Fault → Type 0
FoundRow s q (Ok i) = IsRow s q i
FoundRow s q (Err f) = NotLooked (state_of s) q f

-- the rows of a place and of all later ones of its block
pub record AreRows (s : BenchChip) (q : Place) (r : Range ℕ) : Type 0 where
  pub ready : s.on ≡ true
  pub within : Within (state_of s) q
  pub start_is : r.start ≡ q.block * s.sizes.chunks + q.chunk
  pub end_is : r.end ≡ r.start + (s.sizes.chunks - q.chunk)
  pub block_fits : r.end ≤ vec_len s.rows

-- these rows, or what a look there would answer: 4 off, then 5 no such place
abbrev pub Found : BenchChip → Place → Result (Range ℕ) Fault → Type 0
Found s q (Ok r) = AreRows s q r
Found s q (Err f) = NotLooked (state_of s) q f

-- one act is counted, and no row has changed
pub record Counted (s t : BenchChip) : Type 0 where
  pub acted : Acted s t
  pub rows_stay : t.rows ≡ s.rows
