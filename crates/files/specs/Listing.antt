-- The files of an image, a line for each. Assumes nothing.
use Rattle.std.specs.Prelude.{◌≡◌, ℕ, ◌-◌, Bool, cond, not, ◌&&◌, List, ◌∷◌, ◌++◌, [], length, ◌==◌, codes, decimal, nat_le}
use Rattle.std.specs.List.{flat_map, repeat}
use Rattle.flash.specs.Words.{hex_text}
use Rattle.rules.specs.declared.rows.Row.{Row}
use Rattle.rules.specs.Calls.{name_of, rows}
use Rattle.rules.specs.Reading.{Files}
use Rattle.rules.specs.Refusals.{Store, first_of, size_table}
use Rattle.opening.specs.Opening.{Accepted}
use Rattle.files.specs.Answers.{files_on}

-- printable ASCII, but no backslash
abbrev pub is_plain : ℕ → Bool
is_plain x = nat_le 32 x && (nat_le x 126 && not (x == 92))

-- a byte of a name: as it is, or in two hexadecimal digits after \x
abbrev pub byte_text : ℕ → List ℕ
byte_text x = cond (is_plain x) (x ∷ []) (codes "\\x" ++ hex_text x)

abbrev pub name_text : List ℕ → List ℕ
name_text name = flat_map (λ x. byte_text x) name

-- a number at the right of a column of so many letters
abbrev pub column : ℕ → ℕ → List ℕ
column w n = repeat (w - length (decimal n)) (codes " ") ++ decimal n

-- the numbers of a file: object, size in bytes, length in chunks
abbrev pub numbers_text : Row → List ℕ
numbers_text r = decimal r.object ++ (codes " " ++ (column 7 r.size ++ (codes " " ++ column 4 r.length)))

-- its line: these, and its name
abbrev pub row_line : Row → List ℕ → List ℕ
row_line r name = numbers_text r ++ (codes " " ++ (name_text name ++ codes "\n"))

-- the line of a file, of these
abbrev pub file_line : Files → Row → List ℕ
file_line fs r = row_line r (name_of (fs r.object))

abbrev pub lines_text : Files → List Row → List ℕ
lines_text fs rs = flat_map (λ r. file_line fs r) rs

-- the row is of a present file of a store that runs
abbrev pub IsFile : Store → Row → Type 0
IsFile s r = first_of (size_table s r.object) ≡ 0

-- a line for each file of an image that mount accepts, by rising object number
abbrev pub IsListed : List ℕ → List ℕ → Type 0
IsListed xs text = Accepted xs × (text ≡ lines_text (files_on xs) (rows (files_on xs)))
