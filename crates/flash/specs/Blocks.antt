-- Blocks as lists of chunks: the records that stand, and one chunk or one block changed. Assumes nothing.
use Rattle.std.specs.Prelude.{ℕ, List, [], ◌∷◌, ◌++◌, slice_index_or, slice_set}
use Rattle.flash.specs.declared.chunks.Record.{Record}
use Rattle.flash.specs.declared.chunks.Chunk.{Chunk}
use Rattle.flash.specs.declared.chunks.Chunk.TheVariants.{Blank, Damaged, Holds}

abbrev pub cons_record : Chunk → List Record → List Record
cons_record Blank rs = rs
cons_record Damaged rs = rs
cons_record (Holds r) rs = r ∷ rs

-- the records of a block, in chunk order
abbrev pub records_of : List Chunk → List Record
records_of [] = []
records_of (c ∷ cs) = cons_record c (records_of cs)

-- the records that stand, by rising place
abbrev pub standing : List (List Chunk) → List Record
standing [] = []
standing (b ∷ bs) = records_of b ++ standing bs

-- chunk c of block b
abbrev pub chunk_at : List (List Chunk) → ℕ → ℕ → Chunk
chunk_at bs b c = slice_index_or (slice_index_or bs b []) c Blank

abbrev pub put_at : List (List Chunk) → ℕ → ℕ → Chunk → List (List Chunk)
put_at bs b c x = slice_set bs b (slice_set (slice_index_or bs b []) c x)

abbrev pub all_blank : List Chunk → List Chunk
all_blank [] = []
all_blank (c ∷ cs) = Blank ∷ all_blank cs

abbrev pub erase_at : List (List Chunk) → ℕ → List (List Chunk)
erase_at bs b = slice_set bs b (all_blank (slice_index_or bs b []))
