-- Cases worked on three blocks of four chunks of 2,048 bytes: one table, each row what is done, what is asked then, and what must come. Assumes nothing.
use Rattle.std.specs.Prelude.{◌≡◌, ℕ, Bool, true, false, not, ◌&&◌, List, [], ◌∷◌, ◌++◌, take, drop, Some, None, Option, ◌==◌, slice_index_or, slice_set}
use Rattle.flash.specs.declared.chunks.Record.{Record}
use Rattle.flash.specs.declared.chunks.Chunk.{Chunk}
use Rattle.flash.specs.declared.chunks.Chunk.TheVariants.{Blank, Damaged, Holds}
use Rattle.flash.specs.Blocks.{put_at, chunk_at}
use Rattle.rules.specs.Lists.{Among, keep, is_there, same_bytes}
use Rattle.rules.specs.Records.{object, kind, kind_by, keeps_rules}
use Rattle.rules.specs.Reading.{File, files, header, size, head_of, data_of, hides, hidden, present, chunk, number_there, highest_chunk, used_of, used_by, any_object, name_taken, topped, replaced, outmarked, has_older, hides_some, in_file, wanted, used}
use Rattle.rules.specs.Places.{Act, adding, copying, erasing, runs, counts, makes_load, load_list, load, to_clean, open_place, blank_place, add_place, copy_place, programmed, clean}
use Rattle.rules.specs.Mounting.{mounted, two_named, limit, no_way_on}
use Rattle.rules.specs.Calls.{Call, create, put, cut, rename, delete, opens, closes, collect, mount}
use Rattle.rules.specs.Refusals.{Store, recs, refusal}
use Rattle.rules.specs.Machine.{none, opening, closing, acts_of, with_flash, with_opened}

-- what a failing call leaves in a chunk
pub data Outcome : Type 0 where
  keeps damages takes : Outcome

-- a call that is not refused and done to its end; or one at whose act, counted from 0, the supply fails, with what each chunk of that act's block then
-- is (of a program, what its one chunk is)
pub data Deed : Type 0 where
  calls : Call → Deed
  fails : Call → ℕ → List Outcome → Deed

-- what is asked, with what must come
pub data Ask : Type 0 where
  -- chunk c of block b holds a record of these four numbers
  holds_at : ℕ → ℕ → List ℕ → Ask
  -- the file of the object has this length, and this size
  long_is : ℕ → ℕ → Ask
  size_is : ℕ → ℕ → Ask
  -- chunk j of the object is missing, or is there
  lacks : ℕ → ℕ → Ask
  has : ℕ → ℕ → Ask
  -- the object has no file
  no_file : ℕ → Ask
  -- the serials of the wanted records, by rising place
  wanted_are : List ℕ → Ask
  -- the load of a block
  load_is : ℕ → ℕ → Ask
  -- the call would be refused by this number, 0 if by none
  refused_by : Call → ℕ → Ask
  -- the call would program and erase so often
  costs : Call → ℕ → ℕ → Ask

pub record Row : Type 0 where
  pub deeds : List Deed
  pub asks : List Ask

abbrev left : Outcome → Chunk → Chunk → Chunk
left keeps old new = old
left damages old new = Damaged
left takes old new = new

abbrev left_all : List Outcome → List Chunk → List Chunk
left_all [] cs = cs
left_all (x ∷ xs) [] = []
left_all (x ∷ xs) (c ∷ cs) = left x c Blank ∷ left_all xs cs

abbrev one : List Outcome → Outcome
one [] = keeps
one (x ∷ xs) = x

-- the contents where the supply fails at the first of the acts
abbrev broken : List Outcome → List (List Chunk) → List Act → List (List Chunk)
broken xs bs [] = bs
broken xs bs (adding b c r ∷ more) = put_at bs b c (left (one xs) (chunk_at bs b c) (Holds r))
broken xs bs (copying b c r ∷ more) = put_at bs b c (left (one xs) (chunk_at bs b c) (Holds r))
broken xs bs (erasing b ∷ more) = slice_set bs b (left_all xs (slice_index_or bs b []))

abbrev stopped : Store → List (List Chunk) → Store
stopped s bs = record { n = s.n; p = s.p; power = false; running = false; opened = s.opened; flash = record { blocks = bs; stand = s.flash.stand } }

abbrev call_done : ℕ → Store → Call → Store
call_done w s (create o name) = with_flash s (runs s.flash (acts_of w s.flash (create o name)))
call_done w s (put o j bs) = with_flash s (runs s.flash (acts_of w s.flash (put o j bs)))
call_done w s (cut o k) = with_flash s (runs s.flash (acts_of w s.flash (cut o k)))
call_done w s (rename o name) = with_flash s (runs s.flash (acts_of w s.flash (rename o name)))
call_done w s (delete o) = with_flash s (runs s.flash (acts_of w s.flash (delete o)))
call_done w s (opens o) = with_opened s (opening o s.opened)
call_done w s (closes o) = with_opened s (closing o s.opened)
call_done w s collect = with_flash s (runs s.flash (acts_of w s.flash collect))
call_done w s mount = record { n = s.n; p = s.p; power = true; running = true; opened = none; flash = mounted s.flash.blocks }

abbrev deed_done : ℕ → Store → Deed → Store
deed_done w s (calls call) = call_done w s call
deed_done w s (fails call k xs) =
    let acts = acts_of w s.flash call in
    stopped s (broken xs (runs s.flash (take k acts)).blocks (drop k acts))

abbrev call_of : Deed → Call
call_of (calls call) = call
call_of (fails call k xs) = call

-- every deed is of a call that is not refused
abbrev pub fine : ℕ → Store → List Deed → Bool
fine w s [] = true
fine w s (d ∷ ds) = refusal s (call_of d) == 0 && fine w (deed_done w s d) ds

abbrev pub done : ℕ → Store → List Deed → Store
done w s [] = s
done w s (d ∷ ds) = done w (deed_done w s d) ds

abbrev numbers_in : Chunk → List ℕ
numbers_in Blank = []
numbers_in Damaged = []
numbers_in (Holds r) = r.tag.first ∷ r.tag.second ∷ r.tag.third ∷ r.tag.serial ∷ []

abbrev size_of : Option File → ℕ
size_of None = 0
size_of (Some f) = size f

abbrev long_of : Option File → ℕ
long_of None = 0
long_of (Some f) = f.long

abbrev part_of : Option File → ℕ → Option (List ℕ)
part_of None j = None
part_of (Some f) j = f.part j

abbrev serials : List Record → List ℕ
serials [] = []
serials (r ∷ rs) = r.tag.serial ∷ serials rs

abbrev same_pair : ℕ × ℕ → ℕ → ℕ → Bool
same_pair q a b = q.0 == a && q.1 == b

-- what was asked comes
abbrev pub comes : ℕ → Store → Ask → Bool
comes w s (holds_at b c ns) = same_bytes (numbers_in (chunk_at s.flash.blocks b c)) ns
comes w s (long_is o k) = long_of (files (recs s) o) == k
comes w s (size_is o k) = size_of (files (recs s) o) == k
comes w s (lacks o j) = not (is_there (part_of (files (recs s) o) j))
comes w s (has o j) = is_there (part_of (files (recs s) o) j)
comes w s (no_file o) = not (is_there (files (recs s) o))
comes w s (wanted_are ks) = same_bytes (serials (keep (wanted (recs s)) (recs s))) ks
comes w s (load_is b k) = load s.flash.blocks b == k
comes w s (refused_by call k) = refusal s call == k
comes w s (costs call a b) = same_pair (counts (acts_of w s.flash call)) a b

-- a blank chip of three blocks of four, mounted
abbrev four : List Chunk
four = Blank ∷ Blank ∷ Blank ∷ Blank ∷ []

abbrev pub blank : Store
blank = record { n = 3; p = 4; power = true; running = true; opened = none; flash = mounted (four ∷ four ∷ four ∷ []) }

abbrev five : List ℕ
five = 1 ∷ 2 ∷ 3 ∷ 4 ∷ 5 ∷ []

abbrev nine : List ℕ
nine = 1 ∷ 2 ∷ 3 ∷ 4 ∷ 5 ∷ 6 ∷ 7 ∷ 8 ∷ 9 ∷ []

abbrev name : List ℕ
name = 97 ∷ []

abbrev other : List ℕ
other = 98 ∷ []

-- created, and opened
abbrev begun : List Deed
begun = calls (create 257 name) ∷ calls (opens 257) ∷ []

-- created, with chunks 1 to 6
abbrev six : List Deed
six = begun ++ (calls (put 257 1 five) ∷ calls (put 257 2 five) ∷ calls (put 257 3 five) ∷ calls (put 257 4 five) ∷ calls (put 257 5 five) ∷ calls (put 257 6 five) ∷ [])

abbrev seven : List Deed
seven = six ++ (calls (put 257 6 nine) ∷ [])

-- the first records
abbrev first_records : Row
first_records = record {
  deeds = begun ++ (calls (put 257 1 five) ∷ []);
  asks = holds_at 0 0 (0xC0000001 ∷ 0x10000101 ∷ 0 ∷ 1 ∷ []) ∷ holds_at 0 1 (1 ∷ 257 ∷ 5 ∷ 2 ∷ []) ∷ size_is 257 5 ∷ [];
}

-- a stretch cut away stays away
abbrev cut_away : Row
cut_away = record {
  deeds = begun ++ (calls (put 257 1 five) ∷ calls (put 257 2 five) ∷ calls (put 257 3 five) ∷ calls (cut 257 1) ∷ calls (put 257 3 nine) ∷ []);
  asks = long_is 257 3 ∷ lacks 257 2 ∷ size_is 257 4105 ∷ [];
}

-- a deleted file: only the marker is wanted
abbrev deleted : Row
deleted = record {
  deeds = begun ++ (calls (put 257 1 five) ∷ calls (closes 257) ∷ calls (delete 257) ∷ []);
  asks = no_file 257 ∷ wanted_are (3 ∷ []) ∷ [];
}

-- a cut header copied, and then an erase that fails and leaves only record 2 of its block
abbrev spread : List Deed
spread = begun ++ (calls (put 257 1 five) ∷ calls (put 257 2 five) ∷ calls (cut 257 0) ∷ calls (put 257 2 nine) ∷ [])

abbrev block_loaded : Row
block_loaded = record { deeds = spread; asks = load_is 0 1 ∷ costs collect 1 1 ∷ [] }

abbrev failed_erase : Row
failed_erase = record {
  deeds = spread ++ (fails collect 1 (damages ∷ keeps ∷ takes ∷ damages ∷ []) ∷ []);
  asks = holds_at 0 1 (1 ∷ 257 ∷ 5 ∷ 2 ∷ []) ∷ long_is 257 2 ∷ lacks 257 1 ∷ has 257 2 ∷ refused_by mount 0 ∷ [];
}

-- a cut header is wanted while what it hides stands
abbrev still_hides : Row
still_hides = record {
  deeds = begun ++ (calls (put 257 1 five) ∷ calls (cut 257 0) ∷ calls (closes 257) ∷ calls (rename 257 other) ∷ calls (opens 257) ∷ calls (put 257 2 five) ∷ []);
  asks = wanted_are (3 ∷ 4 ∷ 5 ∷ []) ∷ holds_at 0 3 (0x80000001 ∷ 0x10000101 ∷ 0 ∷ 4 ∷ []) ∷ [];
}

-- at the limit: a new chunk is refused, an old one put again is taken
abbrev at_limit : Row
at_limit = record { deeds = six; asks = refused_by (put 257 7 nine) 27 ∷ refused_by (put 257 6 nine) 0 ∷ [] }

abbrev put_again : Row
put_again = record { deeds = seven; asks = holds_at 1 3 (6 ∷ 257 ∷ 9 ∷ 8 ∷ []) ∷ [] }

-- a cleaning
abbrev cleaned : Row
cleaned = record { deeds = seven; asks = costs (put 257 6 five) 4 1 ∷ [] }

-- the costliest put: the third copy of that cleaning failed, damaged
abbrev costliest : Row
costliest = record {
  deeds = seven ++ (fails (put 257 6 five) 2 (damages ∷ []) ∷ calls mount ∷ calls (opens 257) ∷ []);
  asks = costs (put 257 6 five) 4 2 ∷ [];
}

-- a copied cut header keeps its serial, so a chunk put later is not hidden
abbrev copy_keeps_serial : Row
copy_keeps_serial = record {
  deeds = spread ++ (calls collect ∷ []);
  asks = holds_at 1 1 (0xC0000001 ∷ 0x10000101 ∷ 0 ∷ 4 ∷ []) ∷ has 257 2 ∷ long_is 257 2 ∷ [];
}

-- a marker is copied while an old record of its object stands in another block, so the file calls not return
abbrev marker_stays : Row
marker_stays = record {
  deeds = calls (create 258 other) ∷ calls (opens 258) ∷ calls (put 258 1 five) ∷ calls (put 258 2 five) ∷ calls (create 257 name)
      ∷ calls (delete 257) ∷ calls (put 258 3 five) ∷ calls (put 258 3 five) ∷ calls (put 258 3 five) ∷ calls collect ∷ calls mount ∷ [];
  asks = no_file 257 ∷ wanted_are (1 ∷ 2 ∷ 3 ∷ 5 ∷ 8 ∷ []) ∷ holds_at 2 0 (0xC0000004 ∷ 0x10000101 ∷ 0 ∷ 5 ∷ []) ∷ [];
}

-- room is not judged by blank chunks: four are blank, and chunk 6 is taken again while chunk 7 is refused
abbrev room_by_files : Row
room_by_files = record { deeds = seven; asks = refused_by (put 257 6 five) 0 ∷ refused_by (put 257 7 five) 27 ∷ [] }

abbrev pub table : List Row
table = first_records ∷ cut_away ∷ deleted ∷ block_loaded ∷ failed_erase ∷ still_hides ∷ at_limit ∷ put_again ∷ cleaned ∷ costliest
    ∷ copy_keeps_serial ∷ marker_stays ∷ room_by_files ∷ []

-- a row is right: none of its calls is refused, and all that was asked comes
pub record Right (w : ℕ) (row : Row) : Type 0 where
  pub none_refused : fine w blank row.deeds ≡ true
  pub all_come : (a : Ask) → Among a row.asks → comes w (done w blank row.deeds) a ≡ true

abbrev pub Worked : Type 0
Worked = (row : Row) → Among row table → Right 2048 row

-- the same as one test
abbrev pub each_comes : ℕ → Store → List Ask → Bool
each_comes w s [] = true
each_comes w s (a ∷ more) = comes w s a && each_comes w s more

abbrev pub every : ℕ → List Row → Bool
every w [] = true
every w (row ∷ more) = (fine w blank row.deeds && each_comes w (done w blank row.deeds) row.asks) && every w more

-- names what the test computes with
unfoldable pub computing : ℕ
unfolding files header object kind kind_by head_of data_of hides hidden present chunk number_there highest_chunk topped replaced outmarked has_older hides_some in_file wanted used used_of used_by makes_load load_list load to_clean open_place blank_place add_place copy_place programmed clean keeps_rules any_object name_taken two_named limit no_way_on
computing = 0
