-- The bytes of an image file, and the chip that they are. Assumes nothing.
use Rattle.std.specs.Prelude.{ℕ, ◌+◌, ◌*◌, Bool, true, cond, ◌&&◌, List, length, take, drop, ◌==◌, nat_le, slice_index}
use Rattle.flash.specs.declared.chunks.Record.{Record}
use Rattle.flash.specs.declared.chunks.Chunk.{Chunk}
use Rattle.flash.specs.declared.chunks.Chunk.TheVariants.{Blank, Damaged, Holds}
use Rattle.flash.specs.Model.{State}

-- the number of 16 bits at byte i, and that of 32 bits, the lowest byte first
abbrev pub le16 : List ℕ → ℕ → ℕ
le16 xs i = slice_index xs i + slice_index xs (i + 1) * 256

abbrev pub le32 : List ℕ → ℕ → ℕ
le32 xs i = slice_index xs i + slice_index xs (i + 1) * 256 + slice_index xs (i + 2) * 65536 + slice_index xs (i + 3) * 16777216

-- the head is 8 bytes: the mark TFS
abbrev pub marked : List ℕ → Bool
marked xs = nat_le 8 (length xs) && (slice_index xs 0 == 84 && (slice_index xs 1 == 70 && slice_index xs 2 == 83))

-- then the version
abbrev pub version : List ℕ → ℕ
version xs = le16 xs 3

-- how many blocks there are, and how many chunks in each
abbrev pub block_count : List ℕ → ℕ
block_count xs = slice_index xs 5

abbrev pub chunk_count : List ℕ → ℕ
chunk_count xs = slice_index xs 6

-- and the power, of which 1 is on and anything else off
abbrev pub powered : List ℕ → Bool
powered xs = slice_index xs 7 == 1

-- the chunks follow the head, block after block, in 2,065 bytes each: where chunk c of block b begins if a block has p chunks
abbrev pub start_of : ℕ → ℕ → ℕ → ℕ
start_of p b c = 8 + (b * p + c) * 2065

-- the bytes of a chunk
abbrev pub bytes_at : List ℕ → ℕ → List ℕ
bytes_at xs start = take 2065 (drop start xs)

-- of a chunk's bytes the first is its state, four numbers follow, and from byte 17 on its data
abbrev pub data_of : List ℕ → List ℕ
data_of ys = drop 17 ys

abbrev pub record_of : List ℕ → Record
record_of ys = record { tag = record { first = le32 ys 1; second = le32 ys 5; third = le32 ys 9; serial = le32 ys 13 }; bytes = data_of ys }

-- what a chunk's bytes say: state 255 blank, 1 a record, anything else damaged
abbrev pub chunk_of : List ℕ → Chunk
chunk_of ys = cond (slice_index ys 0 == 255) Blank (cond (slice_index ys 0 == 1) (Holds (record_of ys)) Damaged)

-- why the bytes are no image: 1 under 8 bytes or not marked, 2 the version is not 1, 3 the length is not that of the head and the chunks; 0 they are one
abbrev pub misfit : List ℕ → ℕ
misfit xs = cond (marked xs) (cond (version xs == 1) (cond (length xs == 8 + block_count xs * chunk_count xs * 2065) 0 3) 2) 1

abbrev pub well_made : List ℕ → Bool
well_made xs = misfit xs == 0

-- the chip of a well-made image
abbrev pub chip_of : List ℕ → State
chip_of xs = record { n = block_count xs; p = chunk_count xs; on = powered xs; cells = λ b c. chunk_of (bytes_at xs (start_of (chunk_count xs) b c)) }

-- any other bytes are a chip with no blocks that is always on
abbrev pub no_chip : State
no_chip = record { n = 0; p = 0; on = true; cells = λ b c. Blank }

abbrev pub image_of : List ℕ → State
image_of xs = cond (well_made xs) (chip_of xs) no_chip
