-- The questions: which refusal or which value each answers, and what it leaves. Assumes nothing.
use Rattle.std.specs.Prelude.{◌≡◌, ℕ, true, List, [], ◌++◌, length, drop, Some, Ok, Err, Option, Result}
use Rattle.flash.specs.Model.{State, blocks_of}
use Rattle.rules.specs.declared.rows.Row.{Row}
use Rattle.rules.specs.Calls.{find, rows, read_count, read_into}
use Rattle.rules.specs.Reading.{File, files, size}
use Rattle.rules.specs.Refusals.{Store, Table, first_of, recs, find_table, size_table, read_table, list_table}
use Rattle.rules.specs.Machine.{none}
use Rattle.scan.specs.declared.refusals.Refusal.{Refusal}
use Rattle.scan.specs.Refusals.{told}

-- the store as a question finds it: it runs; which files are open and how blocks stand do not matter
abbrev pub asked : State → Store
asked s = record { n = s.n; p = s.p; power = s.on; running = true; opened = none; flash = record { blocks = blocks_of s; stand = [] } }

-- the smallest refusal of the table that fits, which carries no values; or, where none fits, a value
abbrev pub Answered : {A : Type 0} → Table → Result A Refusal → (A → Type 0) → Type 0 → Type 0
Answered table (Ok x) Granted Kept = (first_of table ≡ 0) × Granted x
Answered table (Err e) Granted Kept = (told e ≡ (first_of table, [])) × Kept

-- find: the object of a present file of this name, or none
abbrev pub FindAnswered : Store → List ℕ → Result (Option ℕ) Refusal → Type 0
FindAnswered s name r = Answered (find_table s name) r (λ o. o ≡ find (files (recs s)) name) (Unit {0})

-- what holds of the file of an object
abbrev pub OfFile : Store → ℕ → (File → Type 0) → Type 0
OfFile s o P = (f : File) × (files (recs s) o ≡ Some f) × P f

-- size: that of the file, in bytes
abbrev pub SizeAnswered : Store → ℕ → Result ℕ Refusal → Type 0
SizeAnswered s o r = Answered (size_table s o) r (λ n. OfFile s o (λ f. n ≡ size f)) (Unit {0})

-- read: the number of bytes, and the buffer with the file's bytes at its front; refused, the buffer stays
abbrev pub ReadAnswered : Store → ℕ → ℕ → List ℕ → Result ℕ Refusal → List ℕ → Type 0
ReadAnswered s o pos was r is = Answered (read_table s o) r (λ n. OfFile s o (λ f. (n ≡ read_count f pos (length was)) × (is ≡ read_into f pos was))) (is ≡ was)

-- list: the number of files, and their rows at the front; refused, the rows stay
abbrev pub ListAnswered : Store → List Row → Result ℕ Refusal → List Row → Type 0
ListAnswered s was r is = Answered (list_table s (length was)) r (λ n. (n ≡ length (rows (files (recs s)))) × (is ≡ rows (files (recs s)) ++ drop n was)) (is ≡ was)
