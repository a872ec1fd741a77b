-- How blocks stand, their load, finding a place for a record, and cleaning. Assumes nothing.
use Rattle.std.specs.Prelude.{ℕ, zero, suc, Bool, true, false, cond, not, ◌&&◌, List, [], ◌∷◌, ◌++◌, length, Some, None, Option, ◌==◌, nat_eq, nat_le, slice_index_or, slice_set}
use Rattle.rules.specs.declared.standings.Event.{Event}
use Rattle.rules.specs.declared.standings.Event.TheVariants.{Opened, Filled, Erased, Mounted}
use Rattle.rules.specs.declared.standings.Standing.{Standing}
use Rattle.rules.specs.declared.standings.Standing.TheVariants.{Blank as blank_s, Open as open_s, Closed as closed_s}
use Rattle.flash.specs.declared.chunks.Record.{Record}
use Rattle.flash.specs.declared.chunks.Chunk.{Chunk}
use Rattle.flash.specs.declared.chunks.Chunk.TheVariants.{Holds}
use Rattle.rules.specs.Lists.{any, keep, count, first_where, or_else}
use Rattle.rules.specs.Records.{is_blank}
use Rattle.rules.specs.Reading.{once, wanted}
use Rattle.flash.specs.Blocks.{records_of, standing, put_at, erase_at}

-- opening, filling, erasing and mounting move a block on
abbrev pub moved : Event → Standing → Standing
moved Opened blank_s = open_s
moved Opened open_s = open_s
moved Opened closed_s = closed_s
moved Filled blank_s = blank_s
moved Filled open_s = closed_s
moved Filled closed_s = closed_s
moved Erased x = blank_s
moved (Mounted blank) x = cond blank blank_s closed_s

abbrev pub is_blank_s : Standing → Bool
is_blank_s blank_s = true
is_blank_s open_s = false
is_blank_s closed_s = false

abbrev pub is_open_s : Standing → Bool
is_open_s blank_s = false
is_open_s open_s = true
is_open_s closed_s = false

-- the contents, and how each block stands
pub record Flash : Type 0 where
  pub blocks : List (List Chunk)
  pub stand : List Standing

-- a program or an erase of the chip, with its place and the record
pub data Act : Type 0 where
  adding : ℕ → ℕ → Record → Act
  copying : ℕ → ℕ → Record → Act
  erasing : ℕ → Act

-- what makes the load of a block: a wanted record of it that stands in no other block
unfoldable pub makes_load : List Record → List Record → Record → Bool
makes_load all others r = wanted all r && not (any (λ s. nat_eq s.tag.serial r.tag.serial) others)

-- the records that make the load of block b, in chunk order, each serial once
unfoldable pub load_list : List (List Chunk) → ℕ → List Record
load_list bs b = keep (makes_load (standing bs) (standing (slice_set bs b []))) (once (records_of (slice_index_or bs b [])))

-- the load of block b
unfoldable pub load : List (List Chunk) → ℕ → ℕ
load bs b = length (load_list bs b)

-- of two blocks with their loads the one of lesser load, the first among equals
abbrev pub better : ℕ → ℕ → Option (ℕ × ℕ) → Option (ℕ × ℕ)
better b l None = Some (b, l)
better b l (Some other) = Some (cond (nat_le l other.1) (b, l) other)

-- the block with its load, over the standings from block b on
abbrev pub least : (ℕ → ℕ) → ℕ → List Standing → Option (ℕ × ℕ)
least f b [] = None
least f b (blank_s ∷ ss) = least f (suc b) ss
least f b (open_s ∷ ss) = least f (suc b) ss
least f b (closed_s ∷ ss) = better b (f b) (least f (suc b) ss)

-- the block to clean, with its load: the closed block of least load, the lowest number among equals
unfoldable pub to_clean : Flash → Option (ℕ × ℕ)
to_clean s = least (load s.blocks) 0 s.stand

abbrev pub at_block : ℕ → Option ℕ → Option (ℕ × ℕ)
at_block b None = None
at_block b (Some c) = Some (b, c)

-- the first blank chunk of a block
abbrev pub blank_in : List (List Chunk) → Option ℕ → Option (ℕ × ℕ)
blank_in bs None = None
blank_in bs (Some b) = at_block b (first_where is_blank (slice_index_or bs b []))

abbrev pub start_of : Option ℕ → Option (ℕ × ℕ)
start_of None = None
start_of (Some b) = Some (b, 0)

-- the open block's first blank chunk
unfoldable pub open_place : Flash → Option (ℕ × ℕ)
open_place s = blank_in s.blocks (first_where is_open_s s.stand)

-- chunk 0 of the lowest blank block
unfoldable pub blank_place : Flash → Option (ℕ × ℕ)
blank_place s = start_of (first_where is_blank_s s.stand)

-- the place for a new record: in the open block; else with two blank blocks or more the lowest opens; else there is none, and one cleans
unfoldable pub add_place : Flash → Option (ℕ × ℕ)
add_place s = or_else (open_place s) (cond (nat_le 2 (count is_blank_s s.stand)) (blank_place s) None)

-- the place for a copy: in the open block; else the lowest blank block opens
unfoldable pub copy_place : Flash → Option (ℕ × ℕ)
copy_place s = or_else (open_place s) (blank_place s)

-- a record programmed: its block is open, or closed where that was its last chunk
unfoldable pub programmed : Flash → ℕ → ℕ → Record → Flash
programmed s b c r =
    record { blocks = put_at s.blocks b c (Holds r); stand = slice_set s.stand b (cond (suc c == length (slice_index_or s.blocks b [])) closed_s open_s) }

-- what an act makes of contents and standings
abbrev pub does : Flash → Act → Flash
does s (adding b c r) = programmed s b c r
does s (copying b c r) = programmed s b c r
does s (erasing b) = record { blocks = erase_at s.blocks b; stand = slice_set s.stand b blank_s }

abbrev pub runs : Flash → List Act → Flash
runs s [] = s
runs s (a ∷ more) = runs (does s a) more

-- a record copied to its place
abbrev pub copy_at : Record → Option (ℕ × ℕ) → List Act
copy_at r None = []
copy_at r (Some q) = copying q.0 q.1 r ∷ []

-- records copied one after the other
abbrev pub copies : Flash → List Record → List Act
copies s [] = []
copies s (r ∷ rs) = let a = copy_at r (copy_place s) in a ++ copies (runs s a) rs

abbrev pub clean_block : Flash → Option (ℕ × ℕ) → List Act
clean_block s None = []
clean_block s (Some v) = copies s (load_list s.blocks v.0) ++ (erasing v.0 ∷ [])

-- one cleaning: the records that make the load of the block to clean are copied, and then the block is erased
unfoldable pub clean : Flash → List Act
clean s = clean_block s (to_clean s)

-- adding a record: while there is no place, one cleans, at most k times
abbrev pub add_or : Record → Option (ℕ × ℕ) → List Act → List Act
add_or r None later = later
add_or r (Some q) later = adding q.0 q.1 r ∷ []

abbrev pub plan : ℕ → Flash → Record → List Act
plan zero s r = []
plan (suc k) s r = let later = (let a = clean s in a ++ plan k (runs s a) r) in add_or r (add_place s) later

-- the two counts that a change answers
abbrev pub is_program : Act → Bool
is_program (adding b c r) = true
is_program (copying b c r) = true
is_program (erasing b) = false

abbrev pub counts : List Act → ℕ × ℕ
counts acts = (count is_program acts, count (λ a. not (is_program a)) acts)
