-- Why a command changes nothing: its refusals, in the order in which they are looked for. Assumes nothing.
use Rattle.std.specs.Prelude.{ℕ, Bool, false, not, ◌&&◌, List, [], ◌∷◌, ◌++◌, Some, None, Option, nat_le, nat_lt}
use Rattle.flash.specs.Blocks.{standing}
use Rattle.flash.specs.Model.{blocks_of}
use Rattle.image.specs.Format.{image_of}
use Rattle.rules.specs.Calls.{find, long_of}
use Rattle.rules.specs.Lists.{any}
use Rattle.rules.specs.Mounting.{mounted}
use Rattle.rules.specs.Places.{is_blank_s, Flash, load}
use Rattle.rules.specs.Reading.{File, Files, name_taken}
use Rattle.rules.specs.Refusals.{Table, no_name, no_serial, some_light}
use Rattle.files.specs.Answers.{files_on}
use Rattle.files.specs.Cat.{nameless}

-- 26 where a record with the highest serial stands already
abbrev pub full_on : List ℕ → Table
full_on xs = (26, no_serial (standing (blocks_of (image_of xs)))) ∷ []

-- 19 and 20 of the name
abbrev pub remove_table : List ℕ → List ℕ → Table
remove_table xs name = nameless (files_on xs) name ++ full_on xs

-- a file other than the one found has the name
abbrev pub name_of_other : Files → Option ℕ → List ℕ → Bool
name_of_other fs None new = false
name_of_other fs (Some o) new = name_taken fs o new

-- then 19 and 22 of the new name
abbrev pub rename_table : List ℕ → List ℕ → List ℕ → Table
rename_table xs name new =
    let fs = files_on xs in
    nameless fs name ++ ((19, no_name new) ∷ (22, name_of_other fs (find fs name) new) ∷ full_on xs)

-- the file of the object found
abbrev pub file_found : Files → Option ℕ → Option File
file_found fs None = None
file_found fs (Some o) = fs o

-- or 17 and 25 of the new length
abbrev pub cut_table : List ℕ → List ℕ → ℕ → Table
cut_table xs name n =
    let fs = files_on xs in
    nameless fs name ++ ((17, nat_lt 1000 n) ∷ (25, nat_le (long_of (file_found fs (find fs name))) n) ∷ full_on xs)

-- 28 where a block is blank, and no other has a load below P
abbrev pub idle : ℕ → Flash → Bool
idle p f = any is_blank_s f.stand && not (some_light (load f.blocks) p 0 f.stand)

abbrev pub collect_table : List ℕ → Table
collect_table xs = (28, idle (image_of xs).p (mounted (blocks_of (image_of xs)))) ∷ []
