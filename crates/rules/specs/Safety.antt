-- When an act loses nothing, and what holds of contents and standings between calls. Assumes nothing.
use Rattle.std.specs.Prelude.{◌≡◌, ℕ, ◌<◌, ◌≤◌, true, ◌⊎◌, List, [], ◌∷◌, length, replicate, Some, slice_index_or, slice_set}
use Rattle.flash.specs.declared.chunks.Record.{Record}
use Rattle.rules.specs.Lists.{Among, is_there, count, first_where}
use Rattle.rules.specs.Records.{is_blank}
use Rattle.rules.specs.Reading.{wanted, files}
use Rattle.rules.specs.Places.{is_blank_s, is_open_s, Flash, Act, adding, copying, erasing, clean, load, runs, add_place, to_clean, does}
use Rattle.rules.specs.Laws.{Unique, Left}
use Rattle.flash.specs.declared.chunks.Chunk.{Chunk}
use Rattle.flash.specs.declared.chunks.Chunk.TheVariants.{Blank, Damaged, Holds}
use Rattle.flash.specs.Blocks.{records_of, standing, put_at}
use Rattle.rules.specs.declared.standings.Standing.TheVariants.{Blank as blank_s, Open as open_s, Closed as closed_s}

-- a copy is of a record that stands, into a blank chunk; what is wanted in a block that is erased stands elsewhere too
abbrev pub SafeAct : List (List Chunk) → Act → Type 0
SafeAct bs (adding b c r) = slice_index_or (slice_index_or bs b []) c Damaged ≡ Blank
SafeAct bs (copying b c r) = Among r (standing bs) × (slice_index_or (slice_index_or bs b []) c Damaged ≡ Blank)
SafeAct bs (erasing b) = (r : Record) → Among r (records_of (slice_index_or bs b [])) → wanted (standing bs) r ≡ true → Among r (standing (slice_set bs b []))

abbrev pub SafeRun : Flash → List Act → Type 0
SafeRun s [] = Unit {0}
SafeRun s (a ∷ more) = SafeAct s.blocks a × SafeRun (does s a) more

-- the blank chunks of a block are its last
abbrev pub AllBlank : List Chunk → Type 0
AllBlank [] = Unit {0}
AllBlank (c ∷ cs) = (c ≡ Blank) × AllBlank cs

abbrev pub BlankTail : List Chunk → Type 0
BlankTail [] = Unit {0}
BlankTail (Blank ∷ cs) = AllBlank cs
BlankTail (Damaged ∷ cs) = BlankTail cs
BlankTail (Holds r ∷ cs) = BlankTail cs

pub record Sound (p : ℕ) (s : Flash) : Type 0 where
  pub blank_is : (i : ℕ) → slice_index_or s.stand i closed_s ≡ blank_s → slice_index_or s.blocks i [] ≡ replicate p Blank
  pub open_is : (i : ℕ) → slice_index_or s.stand i closed_s ≡ open_s → BlankTail (slice_index_or s.blocks i []) × (1 ≤ count is_blank (slice_index_or s.blocks i []))
  pub same_long : length s.stand ≡ length s.blocks

-- room for k more copies: a blank block, or k blank chunks in the open one
abbrev pub RoomFor : ℕ → Flash → ℕ → Type 0
RoomFor p s k =
    (((i : ℕ) × (first_where is_blank_s s.stand ≡ Some i)) × (k ≤ p))
    ⊎ (((b : ℕ) × (first_where is_open_s s.stand ≡ Some b) × (k ≤ count is_blank (slice_index_or s.blocks b []))) ⊎ (k ≡ 0))

-- a cleaning with room for its copies loses nothing
abbrev pub CleaningIsSafe : Type 0
CleaningIsSafe = (p : ℕ) (s : Flash) → Sound p s → Unique (standing s.blocks) → ((q : ℕ × ℕ) → to_clean s ≡ Some q → RoomFor p s (load s.blocks q.0)) → SafeRun s (clean s)

-- what the chip may hold where the supply fails at an act
abbrev pub Failed : List (List Chunk) → Act → List (List Chunk) → Type 0
Failed bs (adding b c r) bs' = (left : Chunk) × ((left ≡ Holds r) ⊎ ((left ≡ Damaged) ⊎ (left ≡ Blank))) × (bs' ≡ put_at bs b c left)
Failed bs (copying b c r) bs' = (left : Chunk) × ((left ≡ Holds r) ⊎ ((left ≡ Damaged) ⊎ (left ≡ Blank))) × (bs' ≡ put_at bs b c left)
Failed bs (erasing b) bs' = (left : List Chunk) × Left (slice_index_or bs b []) left × (bs' ≡ slice_set bs b left)

-- what it may hold after a run of acts, of which all are done or one fails
abbrev pub MayHold : Flash → List Act → List (List Chunk) → Type 0
MayHold s [] bs' = bs' ≡ s.blocks
MayHold s (a ∷ more) bs' = Failed s.blocks a bs' ⊎ MayHold (does s a) more bs'

-- wherever the supply fails in a cleaning, the files are as they were
abbrev pub CleaningKeepsFiles : Type 0
CleaningKeepsFiles = (p : ℕ) (s : Flash) → Sound p s → Unique (standing s.blocks) → ((q : ℕ × ℕ) → to_clean s ≡ Some q → RoomFor p s (load s.blocks q.0))
    → (bs' : List (List Chunk)) → MayHold s (clean s) bs' → (o : ℕ) → files (standing s.blocks) o ≡ files (standing bs') o

-- with a blank block, and a load below p in the block taken, one cleaning makes a place
abbrev pub CleaningMakesAPlace : Type 0
CleaningMakesAPlace = (p : ℕ) (s : Flash) → Sound p s → ((i : ℕ) × (first_where is_blank_s s.stand ≡ Some i))
    → (q : ℕ × ℕ) → to_clean s ≡ Some q → load s.blocks q.0 < p
    → is_there (add_place (runs s (clean s))) ≡ true
