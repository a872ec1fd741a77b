-- The check of every record's rules, and the names that it notes on the way. Assumes nothing.
use Rattle.std.specs.Prelude.{◌≡◌, ℕ, ◌*◌, ◌/◌, ◌%◌, ◌<◌, Bool, true, false, cond, ◌&&◌, List, [], ◌∷◌, Some, None, Ok, Err, Option, Result, ◌==◌}
use Rattle.flash.specs.declared.chunks.Chunk.{Chunk}
use Rattle.flash.specs.declared.chunks.Chunk.TheVariants.{Blank, Damaged, Holds}
use Rattle.flash.specs.declared.chunks.Look.{Look}
use Rattle.flash.specs.declared.chunks.Place.{Place}
use Rattle.flash.specs.declared.chunks.Record.{Record}
use Rattle.flash.specs.declared.chunks.Tag.{Tag}
use Rattle.flash.specs.declared.faults.Fault.{Fault}
use Rattle.flash.specs.Model.{State, blocks_of}
use Rattle.rules.specs.Lists.{within}
use Rattle.rules.specs.Records.{kind, is_header, object, first_byte, keeps_rules}
use Rattle.rules.specs.Reading.{in_file}
use Rattle.tags.specs.Bare.{bare, records}
use Rattle.names.specs.Names.{Entries, name_at, name_from}
use Rattle.scan.specs.declared.refusals.Refusal.{Refusal}
use Rattle.scan.specs.declared.refusals.Refusal.TheVariants.{BadRecord}
use Rattle.scan.specs.Flat.{flat}
use Rattle.scan.specs.Tables.{row_of}

-- by the table, the record is in a file
abbrev pub filed_by : List Look → Record → Bool
filed_by rows r = in_file (records rows) (bare r)

-- the name of object o after a chunk was seen: that of the chunk's record, if it is the header of o's file, else what it was
abbrev pub note_of : (Record → Bool) → ℕ → Chunk → Option (List ℕ) → Option (List ℕ)
note_of filed o Blank was = was
note_of filed o Damaged was = was
note_of filed o (Holds r) was = cond (is_header (kind r) && (filed r && (within 257 511 (object r) && o == object r))) (name_from r.bytes) was

-- and after chunks were seen, one after the other
abbrev pub noted : (Record → Bool) → ℕ → Option (List ℕ) → List Chunk → Option (List ℕ)
noted filed o was [] = was
noted filed o was (x ∷ xs) = noted filed o (note_of filed o x was) xs

-- the first byte of a header's data
abbrev pub first_if : Record → Option ℕ
first_if r = cond (is_header (kind r)) (Some (first_byte r.bytes)) None

-- that byte told of the record with these four numbers that is in row k, and its name noted
pub record FirstOf (s : State) (rows : List Look) (k : ℕ) (t : Tag) (before : Entries) (v : Option ℕ) (after : Entries) : Type 0 where
  pub found : Record
  pub here : row_of s k ≡ Holds found
  pub tag : found.tag ≡ t
  pub first : v ≡ first_if found
  pub named : (o : ℕ) → name_at after o ≡ note_of (filed_by rows) o (row_of s k) (name_at before o)

abbrev pub FirstNoted : State → List Look → ℕ → Tag → Entries → Result (Option ℕ) Fault → Entries → Type 0
FirstNoted s rows k t before (Ok v) after = FirstOf s rows k t before v after
FirstNoted s rows k t before (Err f) after = ⊥

-- row i checked: its record keeps the rules, and its name is noted; or 10 with its place
pub record BrokenRule (s : State) (i : ℕ) (e : Refusal) : Type 0 where
  pub place : Place
  pub tells : e ≡ BadRecord place
  pub block : place.block ≡ i / s.p
  pub chunk : place.chunk ≡ i % s.p
  pub found : Record
  pub here : row_of s i ≡ Holds found
  pub breaks : keeps_rules found ≡ false

abbrev pub RowChecked : State → List Look → ℕ → Entries → Result (Unit {0}) Refusal → Entries → Type 0
RowChecked s rows i before (Ok u) after = ((r : Record) → row_of s i ≡ Holds r → keeps_rules r ≡ true) × ((o : ℕ) → name_at after o ≡ note_of (filed_by rows) o (row_of s i) (name_at before o))
RowChecked s rows i before (Err e) after = BrokenRule s i e

-- all rows below i keep the rules
abbrev pub KeepTo : State → ℕ → Type 0
KeepTo s i = (k : ℕ) (r : Record) → k < i → row_of s k ≡ Holds r → keeps_rules r ≡ true

-- every row checked: all records keep the rules, and the names are those noted on the way; or 10 at the first that breaks them
pub record AllChecked (s : State) (rows : List Look) (names : Entries) : Type 0 where
  pub keep : KeepTo s (s.n * s.p)
  pub named : (o : ℕ) → name_at names o ≡ noted (filed_by rows) o None (flat (blocks_of s))

pub record FirstBroken (s : State) (e : Refusal) : Type 0 where
  pub row : ℕ
  pub before : KeepTo s row
  pub broken : BrokenRule s row e

abbrev pub RowsChecked : State → List Look → Result (Unit {0}) Refusal → Entries → Type 0
RowsChecked s rows (Ok u) names = AllChecked s rows names
RowsChecked s rows (Err e) names = FirstBroken s e
