-- What an index tells of a chip's contents and standings, and the places that follow. Assumes nothing.
use Rattle.std.specs.Prelude.{◌≡◌, ℕ, ◌*◌, ◌<◌, Bool, true, false, cond, List, [], length, take, drop, position, Some, None, vec_items, Option, nat_le, slice_index_or}
use Rattle.flash.specs.declared.chunks.Chunk.{Chunk}
use Rattle.flash.specs.declared.chunks.Look.{Look}
use Rattle.flash.specs.declared.chunks.Look.TheVariants.{Blank, Damaged, Record as record_l}
use Rattle.flash.specs.declared.chunks.Place.{Place}
use Rattle.rules.specs.declared.standings.Standing.{Standing}
use Rattle.rules.specs.declared.standings.Standing.TheVariants.{Blank as blank_s, Open as open_s, Closed as closed_s}
use Rattle.rules.specs.Lists.{count}
use Rattle.rules.specs.Places.{Flash, is_blank_s, is_open_s, at_block, start_of}
use Rattle.tags.specs.Bare.{bares}
use Rattle.table.specs.Rows.{blocks_of as table_blocks}
use Rattle.scan.specs.declared.indexes.Index.{Index}
use Rattle.scan.specs.Flat.{looks_of}
use Rattle.scan.specs.Indexes.{looks_in, stands_in}
use Rattle.places.specs.declared.victims.Victim.{Victim}

-- the index tells of these contents and standings
pub record Told (f : Flash) (x : Index) : Type 0 where
  pub blocks_long : length f.blocks ≡ x.sizes.blocks
  pub block_long : (b : ℕ) → b < x.sizes.blocks → length (slice_index_or f.blocks b []) ≡ x.sizes.chunks
  pub mirror : looks_in x ≡ looks_of f.blocks
  pub stands : stands_in x ≡ f.stand

-- the blocks that the index tells of, with the data of records left out
abbrev pub blocks_in : Index → List (List Chunk)
blocks_in x = table_blocks x.sizes.chunks x.sizes.blocks (bares (looks_in x))

-- what each chunk of block b is
abbrev pub rows_of : Index → ℕ → List Look
rows_of x b = take x.sizes.chunks (drop (b * x.sizes.chunks) (vec_items x.rows))

abbrev pub is_closed_s : Standing → Bool
is_closed_s blank_s = false
is_closed_s open_s = false
is_closed_s closed_s = true

-- a number, if there is one, is below n
abbrev pub Below : ℕ → Option ℕ → Type 0
Below n None = Unit {0}
Below n (Some i) = i < n

-- a block stands so
abbrev pub stands_as : Standing → Standing → Bool
stands_as blank_s x = is_blank_s x
stands_as open_s x = is_open_s x
stands_as closed_s x = is_closed_s x

-- a blank chunk, as a look tells it
abbrev pub is_blank_l : Look → Bool
is_blank_l Blank = true
is_blank_l Damaged = false
is_blank_l (record_l t) = false

-- a place as the rules have it: block and chunk
abbrev pub place_told : Option Place → Option (ℕ × ℕ)
place_told None = None
place_told (Some q) = Some (q.block, q.chunk)

-- the block to clean as the rules have it, with its load
abbrev pub victim_told : Option Victim → Option (ℕ × ℕ)
victim_told None = None
victim_told (Some v) = Some (v.block, v.load)

-- a block with its load
abbrev pub with_load : (ℕ → ℕ) → ℕ → Victim
with_load load b = record { block = b; load = load b }

-- by the index: the open block's first blank chunk
abbrev pub chunk_in : Index → Option ℕ → Option (ℕ × ℕ)
chunk_in x None = None
chunk_in x (Some b) = at_block b (position is_blank_l (rows_of x b))

unfoldable pub open_in : Index → Option (ℕ × ℕ)
open_in x = chunk_in x (position (stands_as open_s) (stands_in x))

-- chunk 0 of the lowest blank block, and the same if another block stays blank
unfoldable pub blank_in : Index → Option (ℕ × ℕ)
blank_in x = start_of (position (stands_as blank_s) (stands_in x))

unfoldable pub spare_in : Index → Option (ℕ × ℕ)
spare_in x = cond (nat_le 2 (count (stands_as blank_s) (stands_in x))) (blank_in x) None
