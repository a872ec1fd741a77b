-- The calls: the record that each change adds, and what the questions answer. Assumes nothing.
use Rattle.std.specs.Prelude.{ℕ, zero, suc, ◌+◌, ◌-◌, ◌/◌, ◌%◌, min, cond, not, List, [], ◌∷◌, ◌++◌, length, drop, replicate, Some, None, Option, slice_index}
use Rattle.flash.specs.declared.chunks.Record.{Record}
use Rattle.flash.specs.declared.chunks.Chunk.{Chunk}
use Rattle.flash.specs.Model.{tab}
use Rattle.rules.specs.declared.rows.Row.{Row}
use Rattle.rules.specs.Lists.{cons_if, largest}
use Rattle.rules.specs.Reading.{File, Files, files, size, named}
use Rattle.rules.specs.Places.{Act, erasing}
use Rattle.rules.specs.Mounting.{blank_block}

-- the nine calls of the law of whole runs, with their arguments
pub data Call : Type 0 where
  create : ℕ → List ℕ → Call
  put : ℕ → ℕ → List ℕ → Call
  cut : ℕ → ℕ → Call
  rename : ℕ → List ℕ → Call
  delete : ℕ → Call
  opens : ℕ → Call
  closes : ℕ → Call
  collect : Call
  mount : Call

-- every data byte that is not used is 0; w is the number of data bytes of a chunk, 2,048
abbrev pub padded : ℕ → List ℕ → List ℕ
padded w bs = bs ++ replicate (w - length bs) 0

-- a header's data: the name's length, and the name
abbrev pub name_bytes : ℕ → List ℕ → List ℕ
name_bytes w name = padded w (length name ∷ name)

abbrev pub name_of : Option File → List ℕ
name_of None = []
name_of (Some f) = f.name

abbrev pub long_of : Option File → ℕ
long_of None = 0
long_of (Some f) = f.long

-- one above the highest serial that stands
abbrev pub next : List Record → ℕ
next rs = largest (λ r. r.tag.serial) rs + 1

abbrev pub no_record : Record
no_record = record { tag = record { first = 0; second = 0; third = 0; serial = 0 }; bytes = [] }

-- the record that a change adds, with the serial k, where the files are fs; the other calls add none
abbrev pub record_by : ℕ → ℕ → Files → Call → Record
record_by w k fs (create o name) = record { tag = record { first = 0xC0000001; second = 0x10000000 + o; third = 0; serial = k }; bytes = name_bytes w name }
record_by w k fs (put o j bs) = record { tag = record { first = j; second = o; third = length bs; serial = k }; bytes = padded w bs }
record_by w k fs (cut o n) = record { tag = record { first = 0xC0000001; second = 0x10000000 + o; third = n; serial = k }; bytes = name_bytes w (name_of (fs o)) }
record_by w k fs (rename o name) = record { tag = record { first = 0x80000001; second = 0x10000000 + o; third = long_of (fs o); serial = k }; bytes = name_bytes w name }
record_by w k fs (delete o) = record { tag = record { first = 0xC0000004; second = 0x10000000 + o; third = 0; serial = k }; bytes = padded w [] }
record_by w k fs (opens o) = no_record
record_by w k fs (closes o) = no_record
record_by w k fs collect = no_record
record_by w k fs mount = no_record

abbrev pub record_of : ℕ → List Record → Call → Record
record_of w rs call = record_by w (next rs) (files rs) call

-- format erases each block that is not blank, in rising order from block b on
abbrev pub formats : ℕ → List (List Chunk) → List Act
formats b [] = []
formats b (x ∷ xs) = cons_if (not (blank_block x)) (erasing b) (formats (suc b) xs)

-- the object numbers, rising
abbrev pub up_from : ℕ → ℕ → List ℕ
up_from i zero = []
up_from i (suc k) = i ∷ up_from (suc i) k

unfoldable pub objects : List ℕ
objects = up_from 257 255

-- find: the object of a file of that name
abbrev pub find_in : Files → List ℕ → List ℕ → Option ℕ
find_in fs name [] = None
find_in fs name (o ∷ os) = let later = find_in fs name os in cond (named name (fs o)) (Some o) later

unfoldable pub find : Files → List ℕ → Option ℕ
find fs name = find_in fs name objects

-- list: a row for each file, by rising object number
abbrev pub row_of : ℕ → Option File → List Row
row_of o None = []
row_of o (Some f) = record { object = o; length = f.long; size = size f } ∷ []

abbrev pub rows_in : Files → List ℕ → List Row
rows_in fs [] = []
rows_in fs (o ∷ os) = row_of o (fs o) ++ rows_in fs os

unfoldable pub rows : Files → List Row
rows fs = rows_in fs objects

-- byte i of a file: missing chunks, and bytes past a chunk's byte count, read as 0
abbrev pub byte_in : Option (List ℕ) → ℕ → ℕ
byte_in None k = 0
byte_in (Some bs) k = slice_index bs k

abbrev pub byte_at : File → ℕ → ℕ
byte_at f i = byte_in (f.part (i / 2048 + 1)) (i % 2048)

-- read: as many bytes from a position on as the buffer holds or the size allows
abbrev pub read_count : File → ℕ → ℕ → ℕ
read_count f pos room = min room (size f - pos)

unfoldable pub read_bytes : File → ℕ → ℕ → List ℕ
read_bytes f pos room = tab (byte_at f) pos (read_count f pos room)

-- the buffer after a read: the bytes beyond stay
abbrev pub read_into : File → ℕ → List ℕ → List ℕ
read_into f pos buffer = read_bytes f pos (length buffer) ++ drop (read_count f pos (length buffer)) buffer
