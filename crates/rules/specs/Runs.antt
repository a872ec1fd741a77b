-- What holds between calls, and the law of whole runs. `w` is the number of data bytes of a chunk, 2,048. Assumes nothing.
use Rattle.std.specs.Prelude.{◌≡◌, ℕ, ◌+◌, ◌<◌, ◌≤◌, Bool, true, false, List, [], ◌∷◌, length, replicate, Some, None, ◌≢◌, slice_index_or}
use Rattle.flash.specs.declared.chunks.Record.{Record}
use Rattle.rules.specs.Lists.{Among, is_there, count}
use Rattle.rules.specs.Records.{is_blank}
use Rattle.rules.specs.Reading.{files, present, Files, used_by}
use Rattle.rules.specs.Places.{Flash, Act, adding, copying, erasing, runs, programmed, load, clean, to_clean, add_place, counts, does}
use Rattle.rules.specs.Mounting.{mounted, verdict, limit}
use Rattle.rules.specs.Calls.{Call, collect, record_of}
use Rattle.rules.specs.Right.{accepted, after, right}
use Rattle.rules.specs.Refusals.{Store, recs, is_open, first_of, early_table, refusal}
use Rattle.rules.specs.Safety.{BlankTail}
use Rattle.rules.specs.Machine.{none, Answer, IsChange, Fills, acts_of, Breaks, Step, Event, Run, last_of, taken, made_of, refused, counted, collected, granted, broken}
use Rattle.flash.specs.declared.chunks.Chunk.{Chunk}
use Rattle.flash.specs.declared.chunks.Chunk.TheVariants.{Blank, Damaged}
use Rattle.flash.specs.Blocks.{standing}
use Rattle.rules.specs.declared.standings.Standing.TheVariants.{Blank as blank_s, Open as open_s, Closed as closed_s}

-- n blocks of p chunks, and w data bytes in each record
pub record Shaped (w n p : ℕ) (bs : List (List Chunk)) : Type 0 where
  pub blocks' : length bs ≡ n
  pub chunks : (i : ℕ) → i < n → length (slice_index_or bs i []) ≡ p
  pub bytes' : (r : Record) → Among r (standing bs) → length r.bytes ≡ w

-- a chip attached: a stopped store, with no file open
abbrev pub attached : ℕ → ℕ → Bool → List (List Chunk) → Store
attached n p on bs = record { n = n; p = p; power = on; running = false; opened = none; flash = mounted bs }

-- finding a place: blocks are cleaned one after the other while there is no place; each with its load as it is cleaned
abbrev pub Cleanings : Flash → List (ℕ × ℕ) → Flash → Type 0
Cleanings s [] t = t ≡ s
Cleanings s (q ∷ qs) t = (add_place s ≡ None) × (to_clean s ≡ Some q) × (q.1 ≡ load s.blocks q.0) × Cleanings (runs s (clean s)) qs t

abbrev pub loads : List (ℕ × ℕ) → ℕ
loads [] = 0
loads (q ∷ qs) = q.1 + loads qs

-- then the record is programmed at the place found. Programs are one and those loads; erases are the blocks cleaned
pub record Finds (s : Flash) (todo : List Act) (r : Record) : Type 0 where
  pub cleaned : List (ℕ × ℕ)
  pub before : Flash
  pub block : ℕ
  pub chunk : ℕ
  pub cleanings : Cleanings s cleaned before
  pub place : add_place before ≡ Some (block, chunk)
  pub done : runs s todo ≡ programmed before block chunk r
  pub programs : (counts todo).0 ≡ 1 + loads cleaned
  pub erases : (counts todo).1 ≡ length cleaned

-- the chip takes an act: there is such a block and chunk, and the chunk of a program and all later ones of its block are blank
abbrev pub Takes : ℕ → ℕ → List (List Chunk) → Act → Type 0
Takes n p bs (adding b c r) = (b < n) × (c < p) × ((j : ℕ) → c ≤ j → j < p → slice_index_or (slice_index_or bs b []) j Damaged ≡ Blank)
Takes n p bs (copying b c r) = (b < n) × (c < p) × ((j : ℕ) → c ≤ j → j < p → slice_index_or (slice_index_or bs b []) j Damaged ≡ Blank)
Takes n p bs (erasing b) = b < n

abbrev pub TakesAll : ℕ → ℕ → Flash → List Act → Type 0
TakesAll n p s [] = Unit {0}
TakesAll n p s (a ∷ more) = Takes n p s.blocks a × TakesAll n p (does s a) more

-- how the blocks of a running store stand
pub record Stands (n p : ℕ) (f : Flash) : Type 0 where
  pub many : length f.stand ≡ n
  -- a block stands blank exactly when all its chunks are blank
  pub blank_is : (i : ℕ) → slice_index_or f.stand i closed_s ≡ blank_s → slice_index_or f.blocks i [] ≡ replicate p Blank
  pub blanked : (i : ℕ) → i < n → slice_index_or f.blocks i [] ≡ replicate p Blank → slice_index_or f.stand i closed_s ≡ blank_s
  -- one block at most is open; its blank chunks, one at least, are its last
  pub lone : (i j : ℕ) → slice_index_or f.stand i closed_s ≡ open_s → slice_index_or f.stand j closed_s ≡ open_s → i ≡ j
  pub open_is : (i : ℕ) → slice_index_or f.stand i closed_s ≡ open_s → BlankTail (slice_index_or f.blocks i []) × (1 ≤ count is_blank (slice_index_or f.blocks i []))
  -- beside an open block one is blank; with none open and none blank, a closed block has load 0
  pub spare : (b : ℕ) → slice_index_or f.stand b closed_s ≡ open_s → (i : ℕ) × (slice_index_or f.stand i closed_s ≡ blank_s)
  pub idle : ((i : ℕ) → slice_index_or f.stand i closed_s ≢ open_s) → ((i : ℕ) → slice_index_or f.stand i closed_s ≢ blank_s) → (i : ℕ) × (i < n) × (slice_index_or f.stand i blank_s ≡ closed_s) × (load f.blocks i ≡ 0)

-- what holds of a store and of the right files
pub record Kept (w n p : ℕ) (rights : Files) (s : Store) : Type 0 where
  -- (a) the files by the reading rule are the right files
  pub rightly : (o : ℕ) → files (recs s) o ≡ rights o
  -- (b) mount accepts the contents; and a create or put that no earlier check refuses is refused by 27 exactly when the right files with it done
  -- would use over (N−1)×P−1 chunks
  pub mounts : verdict n p s.flash.blocks ≡ None
  pub only27 : (call : Call) → Fills call → first_of (early_table s call) ≡ 0
      → (refusal s call ≡ 27 → limit n p < used_by (accepted rights call)) × (limit n p < used_by (accepted rights call) → refusal s call ≡ 27) × (used_by (accepted rights call) ≤ limit n p → refusal s call ≡ 0)
  -- no call is stuck: one that is not refused has an answer that is not 7
  pub goes : (call : Call) → refusal s call ≡ 0 → (answer : Answer) × (t : Store) × Step w s call answer t × ((x : Act) → answer ≢ broken x)
  -- (c) a change not refused has 1 to P programs and at most two erases
  pub costs : (call : Call) → IsChange call → refusal s call ≡ 0
      → (1 ≤ (counts (acts_of w s.flash call)).0) × ((counts (acts_of w s.flash call)).0 ≤ p) × ((counts (acts_of w s.flash call)).1 ≤ 2)
  -- collect answers a block and the number of its copies, fewer than P; that many programs it takes, and one erase
  pub collects : refusal s collect ≡ 0 → (q : ℕ × ℕ) × (to_clean s.flash ≡ Some q) × (q.1 < p) × (counts (acts_of w s.flash collect) ≡ (q.1, 1))
  -- the change finds its place by the three rules, and its two counts are one and the loads of the blocks cleaned, and the number of those
  pub finds : (call : Call) → IsChange call → refusal s call ≡ 0 → Finds s.flash (acts_of w s.flash call) (record_of w (recs s) call)
  -- the chip refuses none of the acts
  pub takes : (call : Call) → refusal s call ≡ 0 → TakesAll n p s.flash (acts_of w s.flash call)
  -- while the store runs: its chip is on, how its blocks stand, and that its open files are present
  pub powered : s.running ≡ true → s.power ≡ true
  pub stands : s.running ≡ true → Stands n p s.flash
  pub held : s.running ≡ true → (o : ℕ) → is_open s o ≡ true → is_there (rights o) ≡ true
  pub size_n : s.n ≡ n
  pub size_p : s.p ≡ p

-- what the answers of a run cost: a change 1 to P programs and at most two erases, collect fewer than P copies
abbrev pub Cheap : ℕ → Answer → Type 0
Cheap p (refused k) = Unit {0}
Cheap p (counted a b) = (1 ≤ a) × (a ≤ p) × (b ≤ 2)
Cheap p (collected b k) = k < p
Cheap p granted = Unit {0}
Cheap p (broken x) = Unit {0}

abbrev pub AllCheap : ℕ → List Event → Type 0
AllCheap p [] = Unit {0}
AllCheap p (e ∷ es) = Cheap p e.answer × AllCheap p es

-- the law: from any contents that mount accepts, after any calls with any answers that the chip rules allow
abbrev pub RunsAreRight : ℕ → Type 0
RunsAreRight w = (n p : ℕ) (on : Bool) (bs : List (List Chunk)) → Shaped w n p bs → verdict n p bs ≡ None
    → (es : List Event) → Run w (attached n p on bs) es
    → Kept w n p (right (files (standing bs)) (made_of w (attached n p on bs) es)) (last_of (attached n p on bs) es) × AllCheap p es

-- what every call keeps: contents that mount accepts; and while the store runs, standings that tell them, and open files that are present
pub record Holds (w : ℕ) (s : Store) : Type 0 where
  pub shaped : Shaped w s.n s.p s.flash.blocks
  pub mounts : verdict s.n s.p s.flash.blocks ≡ None
  pub powered : s.running ≡ true → s.power ≡ true
  pub stands : s.running ≡ true → Stands s.n s.p s.flash
  pub held : s.running ≡ true → (o : ℕ) → is_open s o ≡ true → present (recs s) o ≡ true

-- one call: it keeps that, and makes of the files what the right files say
pub record Rightly (w : ℕ) (s : Store) (call : Call) (answer : Answer) (t : Store) : Type 0 where
  pub holds' : Holds w t
  pub rightly : (o : ℕ) → files (recs t) o ≡ after (files (recs s)) (record { call = call; taken = taken w s call answer t }) o
  pub same_n : t.n ≡ s.n
  pub same_p : t.p ≡ s.p

abbrev pub StepsAreRight : ℕ → Type 0
StepsAreRight w = (s t : Store) (call : Call) (answer : Answer) → Holds w s → Step w s call answer t → Rightly w s call answer t

-- and what it is good for
abbrev pub HoldingSuffices : ℕ → Type 0
HoldingSuffices w = (s : Store) → Holds w s → Kept w s.n s.p (files (recs s)) s

-- a change that is not refused finds its place by the three rules, after at most two cleanings; it takes 1 to P programs, and as many erases as cleanings
pub record Cheaply (w : ℕ) (s : Store) (call : Call) : Type 0 where
  pub finds : Finds s.flash (acts_of w s.flash call) (record_of w (recs s) call)
  pub cleanings : length finds.cleaned ≤ 2
  pub some : 1 ≤ (counts (acts_of w s.flash call)).0
  pub programs : (counts (acts_of w s.flash call)).0 ≤ s.p
  pub erases : (counts (acts_of w s.flash call)).1 ≤ 2

abbrev pub TwoCleaningsSuffice : ℕ → Type 0
TwoCleaningsSuffice w = (s : Store) → Holds w s → (call : Call) → IsChange call → refusal s call ≡ 0 → Cheaply w s call

-- wherever the supply fails in a call, mount accepts the contents
abbrev pub AcceptedThroughout : ℕ → Type 0
AcceptedThroughout w = (s : Store) → Holds w s → (call : Call) → refusal s call ≡ 0 → (x : Act) (bs' : List (List Chunk)) → Breaks s.flash (acts_of w s.flash call) x bs'
    → verdict s.n s.p bs' ≡ None
