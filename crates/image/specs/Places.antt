-- Where a chunk was found. Assumes nothing.
use Rattle.std.specs.Prelude.{◌≡◌, ℕ, ◌<◌, ◌≤◌, true, List, [], length, slice_index, slice_index_or}
use Rattle.std.specs.declared.ops.Range.{Range}
use Rattle.flash.specs.declared.chunks.Place.{Place}
use Rattle.flash.specs.Model.{State}
use Rattle.flash.specs.Reads.{Within}
use Rattle.image.specs.Format.{well_made, powered, chunk_count, start_of, chunk_of, chip_of}

-- the chip is on, and the bytes of the chunk and of all later ones of its block lie there
pub record Found (xs : List ℕ) (q : Place) (r : Range ℕ) : Type 0 where
  pub well : well_made xs ≡ true
  pub ready : powered xs ≡ true
  pub within : Within (chip_of xs) q
  pub here : r.start ≡ start_of (chunk_count xs) q.block q.chunk
  pub end_is : r.end ≡ start_of (chunk_count xs) q.block (chunk_count xs)
  pub room : r.end ≤ length xs

-- from a byte on to the end of the place's block
abbrev pub to_end : List ℕ → Place → ℕ → Range ℕ
to_end xs q i = record { start = i; end = start_of (chunk_count xs) q.block (chunk_count xs) }

-- the state bytes of these chunks say that all of them are blank
abbrev pub AllBlank : List (List ℕ) → Type 0
AllBlank xs = (k : ℕ) → k < length xs → slice_index (slice_index_or xs k []) 0 ≡ 255

-- the chip is on, and these are the bytes of a chunk of it
pub record IsChunk (s : State) (q : Place) (ys : List ℕ) : Type 0 where
  pub ready : s.on ≡ true
  pub within : Within s q
  pub is : chunk_of ys ≡ s.cells q.block q.chunk
