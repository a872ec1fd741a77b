-- Which rows of a table make the load of a block. Assumes nothing.
use Rattle.std.specs.Prelude.{ℕ, Bool, false, not, ◌&&◌, List, [], take, nat_eq, slice_index_or, slice_set}
use Rattle.flash.specs.declared.chunks.Record.{Record}
use Rattle.flash.specs.declared.chunks.Chunk.{Chunk}
use Rattle.flash.specs.declared.chunks.Chunk.TheVariants.{Blank, Damaged, Holds}
use Rattle.flash.specs.Blocks.{records_of, standing, chunk_at}
use Rattle.rules.specs.Lists.{any}
use Rattle.rules.specs.Places.{makes_load}

-- none of these has its serial
abbrev pub fresh : List Record → Record → Bool
fresh seen r = not (any (λ s. nat_eq s.tag.serial r.tag.serial) seen)

-- a chunk holds a record that passes the test
abbrev pub holds_one : (Record → Bool) → Chunk → Bool
holds_one t Blank = false
holds_one t Damaged = false
holds_one t (Holds r) = t r

-- chunk c of block b is one that makes the load of b: its record does, and no earlier chunk of the block has its serial
unfoldable pub load_at : List (List Chunk) → ℕ → ℕ → Bool
load_at bs b c = holds_one (λ r. makes_load (standing bs) (standing (slice_set bs b [])) r && fresh (records_of (take c (slice_index_or bs b []))) r) (chunk_at bs b c)
