-- A table tells of a chip's records all that turns on tags: with the data left out, the rules say the same. Assumes nothing.
use Rattle.std.specs.Prelude.{◌≡◌, ℕ, suc, ◌+◌, ◌*◌, ◌<◌, Bool, true, false, List, [], ◌∷◌, map, length, slice_index_or}
use Rattle.std.specs.Option.{option_map}
use Rattle.flash.specs.declared.chunks.Tag.{Tag}
use Rattle.flash.specs.declared.chunks.Record.{Record}
use Rattle.flash.specs.declared.chunks.Chunk.{Chunk}
use Rattle.flash.specs.declared.chunks.Look.{Look}
use Rattle.flash.specs.declared.chunks.Look.TheVariants.{Blank}
use Rattle.flash.specs.Blocks.{cons_record, records_of, standing, chunk_at}
use Rattle.flash.specs.Chunks.{look_of}
use Rattle.rules.specs.Lists.{Among, any, largest}
use Rattle.rules.specs.Records.{keeps_rules}
use Rattle.rules.specs.Reading.{newest, header, present, hidden, chunk, highest_chunk, topped, replaced, outmarked, has_older, hides_some, in_file, wanted, used, files, size}
use Rattle.rules.specs.Places.{load_list, load}
use Rattle.tags.specs.Bare.{bare, bare_of, bares, records}
use Rattle.reading.specs.Sizes.{length_of, size_of}
use Rattle.table.specs.Loads.{load_at}
use Rattle.table.specs.Rows.{blocks_of}

-- what the rules say of the records rs, they say of the same records with the data left out
pub record Alike (rs : List Record) : Type 0 where
  pub any_same : (t : Tag → Bool) → any (λ r. t r.tag) (map bare rs) ≡ any (λ r. t r.tag) rs
  pub newest_same : (t : Tag → Bool) → newest (λ r. t r.tag) (map bare rs) ≡ option_map bare (newest (λ r. t r.tag) rs)
  pub header_same : (o : ℕ) → header (map bare rs) o ≡ option_map bare (header rs o)
  pub present_same : (o : ℕ) → present (map bare rs) o ≡ present rs o
  pub hidden_same : (r : Record) → hidden (map bare rs) (bare r) ≡ hidden rs r
  pub chunk_same : (o j : ℕ) → chunk (map bare rs) o j ≡ option_map bare (chunk rs o j)
  pub highest_same : (o : ℕ) → highest_chunk (map bare rs) o ≡ highest_chunk rs o
  pub length_same : (o : ℕ) → length_of (map bare rs) o ≡ option_map (λ f. f.long) (files rs o)
  pub topped_same : (r : Record) → topped (map bare rs) (bare r) ≡ topped rs r
  pub replaced_same : (r : Record) → replaced (map bare rs) (bare r) ≡ replaced rs r
  pub outmarked_same : (r : Record) → outmarked (map bare rs) (bare r) ≡ outmarked rs r
  pub older_same : (r : Record) → has_older (map bare rs) (bare r) ≡ has_older rs r
  pub hides_same : (r : Record) → hides_some (map bare rs) (bare r) ≡ hides_some rs r
  pub in_file_same : (r : Record) → in_file (map bare rs) (bare r) ≡ in_file rs r
  pub wanted_same : (r : Record) → wanted (map bare rs) (bare r) ≡ wanted rs r
  pub used_same : used (map bare rs) ≡ used rs
  pub serial_same : largest (λ r. r.tag.serial) (map bare rs) ≡ largest (λ r. r.tag.serial) rs

abbrev pub BareReadsAlike : Type 0
BareReadsAlike = (rs : List Record) → Alike rs

-- the size too, where each record has 2,048 data bytes and keeps the rules
abbrev pub SizesAlike : Type 0
SizesAlike = (rs : List Record) → ((r : Record) → Among r rs → (length r.bytes ≡ 2048) × (keeps_rules r ≡ true))
    → (o : ℕ) → size_of (map bare rs) o ≡ option_map size (files rs o)

-- every chunk of the blocks as a look tells it
abbrev pub bare_blocks : List (List Chunk) → List (List Chunk)
bare_blocks bs = map (map (λ x. bare_of (look_of x))) bs

-- and so are the loads of blocks
pub record BlocksAlike (bs : List (List Chunk)) : Type 0 where
  pub records_same : (cs : List Chunk) → records (map look_of cs) ≡ map bare (records_of cs)
  pub standing_same : standing (bare_blocks bs) ≡ map bare (standing bs)
  pub list_same : (b : ℕ) → load_list (bare_blocks bs) b ≡ map bare (load_list bs b)
  pub load_same : (b : ℕ) → load (bare_blocks bs) b ≡ load bs b
  pub row_same : (b c : ℕ) → load_at (bare_blocks bs) b c ≡ load_at bs b c

abbrev pub BareLoadsAlike : Type 0
BareLoadsAlike = (bs : List (List Chunk)) → BlocksAlike bs

-- the chunks that make the load of a block, in chunk order, are the load list
abbrev pub chosen_if : Bool → Chunk → List Record → List Record
chosen_if true x rs = cons_record x rs
chosen_if false x rs = rs

abbrev pub chosen : (ℕ → Bool) → ℕ → List Chunk → List Record
chosen t c [] = []
chosen t c (x ∷ xs) = chosen_if (t c) x (chosen t (suc c) xs)

abbrev pub LoadByRows : Type 0
LoadByRows = (bs : List (List Chunk)) (b : ℕ) → load_list bs b ≡ chosen (load_at bs b) 0 (slice_index_or bs b [])

-- n blocks of p chunks, and a table with a look at each
pub record Mirrors (n p : ℕ) (bs : List (List Chunk)) (looks : List Look) : Type 0 where
  pub blocks_long : length bs ≡ n
  pub block_long : (b : ℕ) → b < n → length (slice_index_or bs b []) ≡ p
  pub looks_long : length looks ≡ n * p
  pub each : (b c : ℕ) → b < n → c < p → slice_index_or looks (b * p + c) Blank ≡ look_of (chunk_at bs b c)

-- such a table tells of the blocks with the data left out
abbrev pub TableMirrors : Type 0
TableMirrors = (n p : ℕ) (bs : List (List Chunk)) (looks : List Look) → Mirrors n p bs looks → (blocks_of p n (bares looks) ≡ bare_blocks bs) × (records looks ≡ map bare (standing bs))
