-- Sizes and rows of the files, as the table tells them. Assumes nothing.
use Rattle.std.specs.Prelude.{ℕ, min, Bool, true, false, List, Some, None, Ok, Err, Option, Result}
use Rattle.std.specs.List.{filter_map}
use Rattle.flash.specs.declared.chunks.Record.{Record}
use Rattle.rules.specs.declared.rows.Row.{Row}
use Rattle.reading.specs.Sizes.{length_of, size_of}
use Rattle.scan.specs.declared.refusals.Refusal.{Refusal}
use Rattle.scan.specs.declared.refusals.Refusal.TheVariants.{BadObject, NotPresent}

-- in 32 bits
abbrev pub narrowed : ℕ → ℕ
narrowed n = min n 4294967295

-- the size of a file, or 16 for an object number that is none, or 20 where there is no file
abbrev pub size_answer : Bool → Option ℕ → Result ℕ Refusal
size_answer false m = Err BadObject
size_answer true None = Err NotPresent
size_answer true (Some n) = Ok (narrowed n)

-- the row of an object that has a length and a size
abbrev pub row_by : ℕ → Option ℕ → Option ℕ → Option Row
row_by o None m = None
row_by o (Some l) None = None
row_by o (Some l) (Some n) = Some (record { object = o; length = l; size = narrowed n })

-- the rows of objects, one after the other
abbrev pub table_rows : List Record → List ℕ → List Row
table_rows rs os = filter_map (λ o. row_by o (length_of rs o) (size_of rs o)) os
