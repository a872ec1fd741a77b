-- What an operand writes, by its place, or what it is not. Assumes nothing.
use Rattle.std.specs.Prelude.{◌≡◌, ℕ, Bool, true, false, List, Some, None, Ok, Err, codes, Result}
use Rattle.std.specs.Str.{bytes_eq}
use Rattle.scripts.specs.declared.bytes.Data.{Data as Bytes}
use Rattle.scripts.specs.declared.lines.Content.{Content}
use Rattle.scripts.specs.declared.lines.Content.TheVariants.{Blank, Damaged, Holds}
use Rattle.scripts.specs.declared.misreads.Misread.{Misread}
use Rattle.scripts.specs.declared.misreads.Misread.TheVariants.{Number, Long, Data, State}
use Rattle.scripts.specs.Numbers.{number_of, long_of}
use Rattle.scripts.specs.Bytes.{data_of, bytes_in}
use Rattle.scripts.specs.Forms.{word_at}

abbrev pub NumberRead : List (List ℕ) → ℕ → Result ℕ Misread → Type 0
NumberRead ws i (Ok n) = number_of (word_at ws i) ≡ Some n
NumberRead ws i (Err e) = (number_of (word_at ws i) ≡ None) × (e ≡ Number i)

abbrev pub LongRead : List (List ℕ) → ℕ → Result ℕ Misread → Type 0
LongRead ws i (Ok n) = long_of (word_at ws i) ≡ Some n
LongRead ws i (Err e) = (long_of (word_at ws i) ≡ None) × (e ≡ Long i)

abbrev pub DataRead : List (List ℕ) → ℕ → Result Bytes Misread → Type 0
DataRead ws i (Ok d) = data_of (word_at ws i) ≡ Some (bytes_in d)
DataRead ws i (Err e) = (data_of (word_at ws i) ≡ None) × (e ≡ Data i)

abbrev pub is_blank_word : List ℕ → Bool
is_blank_word w = bytes_eq w (codes "blank")

abbrev pub is_damaged_word : List ℕ → Bool
is_damaged_word w = bytes_eq w (codes "damaged")

abbrev pub StateRead : List (List ℕ) → ℕ → Result Content Misread → Type 0
StateRead ws i (Ok Blank) = is_blank_word (word_at ws i) ≡ true
StateRead ws i (Ok Damaged) = is_damaged_word (word_at ws i) ≡ true
StateRead ws i (Ok (Holds t d)) = ⊥
StateRead ws i (Err e) = (is_blank_word (word_at ws i) ≡ false) × (is_damaged_word (word_at ws i) ≡ false) × (e ≡ State i)
