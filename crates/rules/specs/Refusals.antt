-- Which refusal each call answers: the first of its table whose condition holds; 0 means none. Assumes nothing.
use Rattle.std.specs.Prelude.{ℕ, suc, Bool, true, false, cond, not, ◌&&◌, ◌||◌, List, [], ◌∷◌, ◌++◌, length, Some, None, Option, nat_le, nat_lt}
use Rattle.flash.specs.declared.chunks.Record.{Record}
use Rattle.flash.specs.Blocks.{standing}
use Rattle.rules.specs.Lists.{any, largest, within}
use Rattle.rules.specs.Reading.{present, files, used_by, name_taken}
use Rattle.rules.specs.Places.{is_blank_s, Flash, load}
use Rattle.rules.specs.Mounting.{sizes_fit, limit, Fault, verdict}
use Rattle.rules.specs.Calls.{Call, create, put, cut, rename, delete, opens, closes, collect, mount, long_of, rows}
use Rattle.rules.specs.Right.{accepted}
use Rattle.rules.specs.declared.standings.Standing.{Standing}
use Rattle.rules.specs.declared.standings.Standing.TheVariants.{Blank as blank_s, Open as open_s, Closed as closed_s}

-- a store and its chip: n blocks of p chunks, the chip on or off, the store running or stopped, the objects whose files are open, the contents with
-- the standings
pub record Store : Type 0 where
  pub n : ℕ
  pub p : ℕ
  pub power : Bool
  pub running : Bool
  pub opened : ℕ → Bool
  pub flash : Flash

-- the refusals of a call: a number with its condition, rising
abbrev pub Table : Type 0
Table = List (ℕ × Bool)

-- the smallest number that fits, or 0
abbrev pub first_of : Table → ℕ
first_of [] = 0
first_of (row ∷ rows) = let later = first_of rows in cond row.1 row.0 later

-- the records that stand
abbrev pub recs : Store → List Record
recs s = standing s.flash.blocks

abbrev pub no_object : ℕ → Bool
no_object o = not (within 257 511 o)

abbrev pub no_name : List ℕ → Bool
no_name name = not (within 1 40 (length name))

-- the file of the object is open
abbrev pub is_open : Store → ℕ → Bool
is_open s o = s.opened o

abbrev pub no_serial : List Record → Bool
no_serial rs = nat_le 4294967295 (largest (λ r. r.tag.serial) rs)

-- the files with the call done would use over the limit
abbrev pub too_many : Store → Call → Bool
too_many s call = nat_lt (limit s.n s.p) (used_by (accepted (files (recs s)) call))

-- a closed block, from number b on, has a load below p
abbrev pub some_light : (ℕ → ℕ) → ℕ → ℕ → List Standing → Bool
some_light f p b [] = false
some_light f p b (blank_s ∷ ss) = some_light f p (suc b) ss
some_light f p b (open_s ∷ ss) = some_light f p (suc b) ss
some_light f p b (closed_s ∷ ss) = nat_lt (f b) p || some_light f p (suc b) ss

abbrev pub open_table : Store → ℕ → Table
open_table s o = (15, not s.running) ∷ (16, no_object o) ∷ (20, not (present (recs s) o)) ∷ (23, is_open s o) ∷ []

abbrev pub close_table : Store → ℕ → Table
close_table s o = (24, not (is_open s o)) ∷ []

abbrev pub collect_table : Store → Table
collect_table s = (15, not s.running) ∷ (28, any is_blank_s s.flash.stand && not (some_light (load s.flash.blocks) s.p 0 s.flash.stand)) ∷ []

abbrev pub fault_table : Option Fault → Table
fault_table None = []
fault_table (Some f) = (f.number, true) ∷ []

-- what is checked before 27
abbrev pub early_table : Store → Call → Table
early_table s (create o name) =
    (15, not s.running) ∷ (16, no_object o) ∷ (19, no_name name) ∷ (21, present (recs s) o) ∷ (22, name_taken (files (recs s)) o name) ∷ (26, no_serial (recs s)) ∷ []
early_table s (put o j bs) =
    (15, not s.running) ∷ (17, not (within 1 1000 j)) ∷ (18, not (within 1 2048 (length bs))) ∷ (24, not (is_open s o)) ∷ (26, no_serial (recs s)) ∷ []
early_table s (cut o k) =
    (15, not s.running) ∷ (17, nat_lt 1000 k) ∷ (24, not (is_open s o)) ∷ (25, nat_le (long_of (files (recs s) o)) k) ∷ (26, no_serial (recs s)) ∷ []
early_table s (rename o name) =
    (15, not s.running) ∷ (16, no_object o) ∷ (19, no_name name) ∷ (20, not (present (recs s) o)) ∷ (22, name_taken (files (recs s)) o name) ∷ (23, is_open s o) ∷ (26, no_serial (recs s)) ∷ []
early_table s (delete o) =
    (15, not s.running) ∷ (16, no_object o) ∷ (20, not (present (recs s) o)) ∷ (23, is_open s o) ∷ (26, no_serial (recs s)) ∷ []
early_table s (opens o) = open_table s o
early_table s (closes o) = close_table s o
early_table s collect = collect_table s
early_table s mount = fault_table (verdict s.n s.p s.flash.blocks)

-- 27, of create and put
abbrev pub room_table : Store → Call → Table
room_table s (create o name) = (27, too_many s (create o name)) ∷ []
room_table s (put o j bs) = (27, too_many s (put o j bs)) ∷ []
room_table s (cut o k) = []
room_table s (rename o name) = []
room_table s (delete o) = []
room_table s (opens o) = []
room_table s (closes o) = []
room_table s collect = []
room_table s mount = []

abbrev pub refusal : Store → Call → ℕ
refusal s call = first_of (early_table s call ++ room_table s call)

-- the questions
abbrev pub find_table : Store → List ℕ → Table
find_table s name = (15, not s.running) ∷ (19, no_name name) ∷ []

abbrev pub size_table : Store → ℕ → Table
size_table s o = (15, not s.running) ∷ (16, no_object o) ∷ (20, not (present (recs s) o)) ∷ []

abbrev pub read_table : Store → ℕ → Table
read_table s o = (15, not s.running) ∷ (16, no_object o) ∷ (20, not (present (recs s) o)) ∷ []

abbrev pub list_table : Store → ℕ → Table
list_table s room = (15, not s.running) ∷ (29, nat_lt room (length (rows (files (recs s))))) ∷ []

-- format checks the sizes alone
abbrev pub format_table : ℕ → ℕ → Table
format_table n p = (9, not (sizes_fit n p)) ∷ []
