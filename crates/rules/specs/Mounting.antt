-- Mounting: how blocks stand after it, and what it refuses. Assumes nothing.
use Rattle.std.specs.Prelude.{ℕ, suc, ◌-◌, ◌*◌, Bool, true, false, cond, not, ◌&&◌, ◌||◌, List, [], ◌∷◌, ◌++◌, map, Some, None, Option, ◌==◌, nat_le, nat_lt}
use Rattle.flash.specs.declared.chunks.Record.{Record}
use Rattle.flash.specs.declared.chunks.Chunk.{Chunk}
use Rattle.flash.specs.declared.chunks.Chunk.TheVariants.{Blank, Damaged, Holds}
use Rattle.rules.specs.Lists.{any, or_else, within, same_bytes}
use Rattle.rules.specs.Records.{is_blank, keeps_rules}
use Rattle.rules.specs.Reading.{files, used_by, File, Files, any_object, name_taken}
use Rattle.rules.specs.Places.{Flash, load}
use Rattle.flash.specs.Blocks.{standing}
use Rattle.rules.specs.declared.standings.Standing.{Standing}
use Rattle.rules.specs.declared.standings.Standing.TheVariants.{Blank as blank_s, Closed as closed_s}

-- every chunk of the block is blank
abbrev pub blank_block : List Chunk → Bool
blank_block [] = true
blank_block (c ∷ cs) = is_blank c && blank_block cs

-- mount leaves every block that is not blank closed
abbrev pub mounted_block : List Chunk → Standing
mounted_block cs = cond (blank_block cs) blank_s closed_s

abbrev pub mounted : List (List Chunk) → Flash
mounted bs = record { blocks = bs; stand = map mounted_block bs }

-- 9 is for sizes other than these
abbrev pub sizes_fit : ℕ → ℕ → Bool
sizes_fit n p = within 3 64 n && (within 2 64 p && nat_le (n * p) 2048)

-- records with their places, by rising place
pub record Placed : Type 0 where
  pub block : ℕ
  pub chunk : ℕ
  pub what : Record

abbrev pub cons_placed : ℕ → ℕ → Chunk → List Placed → List Placed
cons_placed b c Blank ps = ps
cons_placed b c Damaged ps = ps
cons_placed b c (Holds r) ps = record { block = b; chunk = c; what = r } ∷ ps

abbrev pub placed_in : ℕ → ℕ → List Chunk → List Placed
placed_in b c [] = []
placed_in b c (x ∷ xs) = cons_placed b c x (placed_in b (suc c) xs)

abbrev pub placed : ℕ → List (List Chunk) → List Placed
placed b [] = []
placed b (x ∷ xs) = placed_in b 0 x ++ placed (suc b) xs

-- the four numbers and the data bytes are the same
abbrev pub same_record : Record → Record → Bool
same_record a b = a.tag.first == b.tag.first && (a.tag.second == b.tag.second && (a.tag.third == b.tag.third && (a.tag.serial == b.tag.serial && same_bytes a.bytes b.bytes)))

-- two unlike records with one serial
abbrev pub unlike : Record → Record → Bool
unlike a b = let same = same_record a b in elim (a.tag.serial == b.tag.serial) [ true ↦ not same | false ↦ false ]

-- the first place, in rising place, that passes the test
abbrev pub first_placed : (Placed → Bool) → List Placed → Option (ℕ × ℕ)
first_placed t [] = None
first_placed t (q ∷ qs) = let later = first_placed t qs in or_else (cond (t q) (Some (q.block, q.chunk)) None) later

-- 11: the first place whose record is unlike one before it with its serial
abbrev pub first_clash : List Record → List Placed → Option (ℕ × ℕ)
first_clash before [] = None
first_clash before (q ∷ qs) = let later = first_clash (q.what ∷ before) qs in or_else (cond (any (unlike q.what) before) (Some (q.block, q.chunk)) None) later

-- 12: two files have one name
abbrev pub shares_name : Files → ℕ → Option File → Bool
shares_name fs o None = false
shares_name fs o (Some f) = name_taken fs o f.name

unfoldable pub two_named : Files → Bool
two_named fs = any_object (λ o. shares_name fs o (fs o))

-- 13: the files use over (N−1)×P−1 chunks
unfoldable pub limit : ℕ → ℕ → ℕ
limit n p = (n - 1) * p - 1

-- some block has load 0
abbrev pub some_loadless : List (List Chunk) → ℕ → List (List Chunk) → Bool
some_loadless bs b [] = false
some_loadless bs b (x ∷ xs) = load bs b == 0 || some_loadless bs (suc b) xs

-- 14: no block is blank, and none has load 0
unfoldable pub no_way_on : List (List Chunk) → Bool
no_way_on bs = not (any blank_block bs) && not (some_loadless bs 0 bs)

-- a refusal: its number, and the place of 10 and 11
pub record Fault : Type 0 where
  pub number : ℕ
  pub at : Option (ℕ × ℕ)

abbrev pub plain_if : Bool → ℕ → Option Fault
plain_if true k = Some (record { number = k; at = None })
plain_if false k = None

abbrev pub placed_fault : ℕ → Option (ℕ × ℕ) → Option Fault
placed_fault k None = None
placed_fault k (Some q) = Some (record { number = k; at = Some q })

-- mount's verdict: None is acceptance; where several refusals fit, the smallest number
abbrev pub verdict : ℕ → ℕ → List (List Chunk) → Option Fault
verdict n p bs =
    let rs = standing bs in
    let e14 = plain_if (no_way_on bs) 14 in
    let e13 = or_else (plain_if (nat_lt (limit n p) (used_by (files rs))) 13) e14 in
    let e12 = or_else (plain_if (two_named (files rs)) 12) e13 in
    let e11 = or_else (placed_fault 11 (first_clash [] (placed 0 bs))) e12 in
    let e10 = or_else (placed_fault 10 (first_placed (λ q. not (keeps_rules q.what)) (placed 0 bs))) e11 in
    or_else (plain_if (not (sizes_fit n p)) 9) e10
