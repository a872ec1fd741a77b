-- The laws of the reading rule and of single acts, as statements. Assumes nothing.
use Rattle.std.specs.Prelude.{◌≡◌, ℕ, ◌+◌, ◌*◌, ◌<◌, ◌≤◌, Bool, true, false, cond, ◌⊎◌, List, [], ◌∷◌, length, ◌≢◌, slice_index_or, slice_set}
use Rattle.flash.specs.declared.chunks.Record.{Record}
use Rattle.rules.specs.declared.standings.Event.TheVariants.{Opened, Filled, Erased, Mounted}
use Rattle.rules.specs.declared.standings.Standing.{Standing}
use Rattle.rules.specs.declared.standings.Standing.TheVariants.{Blank as blank_s, Open as open_s, Closed as closed_s}
use Rattle.rules.specs.Lists.{Among}
use Rattle.rules.specs.Records.{object, keeps_rules}
use Rattle.rules.specs.Reading.{files, wanted, present, used, in_file, used_by, once}
use Rattle.rules.specs.Places.{load, moved}
use Rattle.rules.specs.Mounting.{blank_block, mounted_block}
use Rattle.rules.specs.Calls.{Call, create, put, cut, rename, delete, opens, closes, collect, mount, record_by}
use Rattle.rules.specs.Right.{accepted}
use Rattle.flash.specs.declared.chunks.Chunk.{Chunk}
use Rattle.flash.specs.declared.chunks.Chunk.TheVariants.{Blank, Damaged, Holds}
use Rattle.flash.specs.Blocks.{records_of, standing, put_at}

-- records with one serial are equal
abbrev pub Unique : List Record → Type 0
Unique rs = (a b : Record) → Among a rs → Among b rs → a.tag.serial ≡ b.tag.serial → a ≡ b

-- the same records stand
pub record Same (rs rs' : List Record) : Type 0 where
  pub to : (r : Record) → Among r rs → Among r rs'
  pub from : (r : Record) → Among r rs' → Among r rs

-- only records that are not wanted have gone, and none has come
pub record Shrunk (rs rs' : List Record) : Type 0 where
  pub from : (r : Record) → Among r rs' → Among r rs
  pub kept : (r : Record) → Among r rs → wanted rs r ≡ true → Among r rs'

-- every record keeps the rules
abbrev pub AllKeep : List Record → Type 0
AllKeep rs = (r : Record) → Among r rs → keeps_rules r ≡ true

-- COPY: the files, what is wanted and what is in a file depend only on which records stand
pub record SameReading (rs rs' : List Record) : Type 0 where
  pub files_same : (o : ℕ) → files rs o ≡ files rs' o
  pub wanted_same : (r : Record) → wanted rs r ≡ wanted rs' r
  pub in_file_same : (r : Record) → in_file rs r ≡ in_file rs' r

abbrev pub CopiesCountOnce : Type 0
CopiesCountOnce = (rs rs' : List Record) → Unique rs → Same rs rs' → SameReading rs rs'

-- and so does what the files use
abbrev pub CopiesUseNothing : Type 0
CopiesUseNothing = (rs rs' : List Record) → Unique rs → AllKeep rs → Same rs rs' → (used_by (files rs) ≡ used_by (files rs')) × (used rs ≡ used rs')

-- VANISH: what is not wanted may go, any of it at once: the files stay, and nothing is newly wanted
abbrev pub WantedSuffices : Type 0
WantedSuffices = (rs rs' : List Record) → Unique rs → Shrunk rs rs'
    → ((o : ℕ) → files rs o ≡ files rs' o) × ((r : Record) → Among r rs' → wanted rs' r ≡ true → wanted rs r ≡ true)

-- GUARD: a wanted record that is in no file has an older record of its object standing that is not wanted
pub record Guards (rs : List Record) (r : Record) : Type 0 where
  pub older : Record
  pub stands : Among older rs
  pub its : object older ≡ object r
  pub before : older.tag.serial < r.tag.serial
  pub unwanted : wanted rs older ≡ false

abbrev pub WantedGuards : Type 0
WantedGuards = (rs : List Record) (r : Record) → Among r rs → wanted rs r ≡ true → in_file rs r ≡ false → Guards rs r

-- so where all that stands is wanted, the records, each serial once, are as many as the chunks that the files use
abbrev pub AllWantedAreUsed : Type 0
AllWantedAreUsed = (rs : List Record) → Unique rs → AllKeep rs → ((r : Record) → Among r rs → wanted rs r ≡ true) → length (once rs) ≡ used_by (files rs)

-- USE: the chunks that the files use, summed over the files, are the records that are in a file, each serial once
abbrev pub UsedByFiles : Type 0
UsedByFiles = (rs : List Record) → Unique rs → AllKeep rs → used_by (files rs) ≡ used rs

-- what a change asks before it is accepted, as far as the files turn on it
abbrev pub Allowed : List Record → Call → Type 0
Allowed rs (create o name) = Unit {0}
Allowed rs (put o j bs) = (present rs o ≡ true) × (1 ≤ j) × (j ≤ 1000)
Allowed rs (cut o n) = present rs o ≡ true
Allowed rs (rename o name) = present rs o ≡ true
Allowed rs (delete o) = Unit {0}
Allowed rs (opens o) = ⊥
Allowed rs (closes o) = ⊥
Allowed rs collect = ⊥
Allowed rs mount = ⊥

-- ADD: the record that a change adds, newer than all that stand, makes of the files what the accepted change makes of them
abbrev pub AddingIsRight : Type 0
AddingIsRight = (w k : ℕ) (rs : List Record) (call : Call) → ((s : Record) → Among s rs → s.tag.serial < k) → Allowed rs call → (o : ℕ) → files (record_by w k (files rs) call ∷ rs) o ≡ accepted (files rs) call o

-- a program, whole or failed, of a copy into a blank chunk keeps the files
abbrev pub CopyingKeepsFiles : Type 0
CopyingKeepsFiles = (bs : List (List Chunk)) (b c : ℕ) (r : Record) → Unique (standing bs) → Among r (standing bs) → slice_index_or (slice_index_or bs b []) c Damaged ≡ Blank
    → (left : Chunk) → (left ≡ Holds r) ⊎ ((left ≡ Damaged) ⊎ (left ≡ Blank))
    → (o : ℕ) → files (standing bs) o ≡ files (standing (put_at bs b c left)) o

-- what an erase may leave of a block: each chunk, singly, as it was, damaged or blank. A whole erase leaves all blank.
abbrev pub Left : List Chunk → List Chunk → Type 0
Left [] [] = Unit {0}
Left [] (y ∷ ys) = ⊥
Left (x ∷ xs) [] = ⊥
Left (x ∷ xs) (y ∷ ys) = ((y ≡ x) ⊎ ((y ≡ Damaged) ⊎ (y ≡ Blank))) × Left xs ys

-- an erase, whole or failed, of a block whose wanted records all stand elsewhere keeps the files, and leaves that block with load 0
abbrev pub ErasingKeepsFiles : Type 0
ErasingKeepsFiles = (bs : List (List Chunk)) (b : ℕ) (left : List Chunk) → b < length bs → Unique (standing bs) → Left (slice_index_or bs b []) left
    → ((r : Record) → Among r (records_of (slice_index_or bs b [])) → wanted (standing bs) r ≡ true → Among r (standing (slice_set bs b [])))
    → ((o : ℕ) → files (standing bs) o ≡ files (standing (slice_set bs b left)) o) × (load (slice_set bs b left) b ≡ 0)

-- ROOM: with one block, k, bare of records and the files within the limit, some other block has a load below P
abbrev pub SomeBlockIsLight : Type 0
SomeBlockIsLight = (bs : List (List Chunk)) (k p : ℕ)
    → ((r : Record) → Among r (records_of (slice_index_or bs k [])) → ⊥)
    → ((i : ℕ) → length (slice_index_or bs i []) ≤ p)
    → used (standing bs) + p < length bs * p
    → ((i : ℕ) → i < length bs → (i ≢ k) → p ≤ load bs i) → ⊥

-- how standings move: a block that is not closed takes a record and is opened, and filled where that was its last chunk; an erased one is blank; and
-- mount leaves a block blank or closed
abbrev pub filled_if : Bool → Standing → Standing
filled_if last x = cond last (moved Filled x) x

pub record StandingsMove : Type 0 where
  pub program : (x : Standing) (last : Bool) → (x ≢ closed_s) → filled_if last (moved Opened x) ≡ cond last closed_s open_s
  pub erase : (x : Standing) → moved Erased x ≡ blank_s
  pub mount' : (x : Standing) (cs : List Chunk) → moved (Mounted (blank_block cs)) x ≡ mounted_block cs
