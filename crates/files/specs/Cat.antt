-- A part of a file. Assumes nothing.
use Rattle.std.specs.Prelude.{◌≡◌, ℕ, not, List, [], ◌∷◌, Some, None, Ok, Err, vec_items, Option, Result, Vec}
use Rattle.std.specs.declared.alloc.Global.{Global}
use Rattle.questions.specs.Questions.{OfFile}
use Rattle.rules.specs.Calls.{find, read_bytes}
use Rattle.rules.specs.Lists.{is_there}
use Rattle.rules.specs.Reading.{File, Files, files, size}
use Rattle.rules.specs.Refusals.{Store as Kept, Table, first_of, recs, no_name, read_table}
use Rattle.scan.specs.Refusals.{told}
use Rattle.opening.specs.Opening.{Accepted}
use Rattle.texts.specs.declared.stops.Stop.{Stop}
use Rattle.texts.specs.declared.stops.Stop.TheVariants.{Memory, Refused, Store}
use Rattle.files.specs.Answers.{files_on}

-- 19 for bytes that are no name, 20 for a name that no file has
abbrev pub nameless : Files → List ℕ → Table
nameless fs name = (19, no_name name) ∷ (20, not (is_there (find fs name))) ∷ []

abbrev pub cat_table : List ℕ → List ℕ → Table
cat_table xs name = nameless (files_on xs) name

-- of a store, that it is stopped comes first
abbrev pub name_table : Kept → List ℕ → Table
name_table s name = (15, not s.running) ∷ nameless (files (recs s)) name

-- how many bytes are asked for: so many, or all
abbrev pub asked_for : File → Option ℕ → ℕ
asked_for f None = size f
asked_for f (Some n) = n

-- of a file of a store the bytes asked for from a position on
abbrev pub PartAnswered : Kept → ℕ → ℕ → Option ℕ → Result (Vec ℕ Global) Stop → Type 0
PartAnswered s o from count (Ok v) = (first_of (read_table s o) ≡ 0) × OfFile s o (λ f. vec_items v ≡ read_bytes f from (asked_for f count))
PartAnswered s o from count (Err Memory) = Unit {0}
PartAnswered s o from count (Err (Refused m)) = ⊥
PartAnswered s o from count (Err (Store e)) = told e ≡ (first_of (read_table s o), [])

-- the file of the name, and of its bytes those asked for from a position on
pub record IsPart (xs name : List ℕ) (from : ℕ) (count : Option ℕ) (part : List ℕ) : Type 0 where
  pub accepted : Accepted xs
  pub object : ℕ
  pub file : File
  pub found : find (files_on xs) name ≡ Some object
  pub is : files_on xs object ≡ Some file
  pub bytes : part ≡ read_bytes file from (asked_for file count)
