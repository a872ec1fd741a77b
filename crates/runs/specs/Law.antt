-- The law of whole runs: what a reader can rely on, whatever calls are made and wherever the supply fails. A call, its answer and the store after it
-- are an `Event`; `refusal s call` is the number that the call's table of refusals gives where the store stands at s, or 0. Assumes nothing.
use Rattle.std.specs.Prelude.{◌≡◌, ◌≢◌, ◌⊎◌, ℕ, ◌<◌, ◌≤◌, List, [], ◌∷◌, map, Some, None}
use Rattle.rules.specs.Calls.{Call, record_of}
use Rattle.rules.specs.Machine.{Answer, refused, counted, collected, granted, broken, Event, IsChange, IsCollect, Fills, Granted, Breaks, Stopped, when_refused, taken, last_of}
use Rattle.rules.specs.Mounting.{verdict, limit}
use Rattle.rules.specs.Places.{Act, runs, counts, to_clean, clean}
use Rattle.rules.specs.Reading.{Files, files, used_by}
use Rattle.rules.specs.Refusals.{Store, recs, refusal, first_of, early_table}
use Rattle.rules.specs.Right.{Made, accepted, after}
use Rattle.rules.specs.Runs.{TakesAll, Finds}

-- a change made so many programs and erases: each is taken by the chip, none failed, and one after the other they make the later contents of the earlier.
-- The record of the change is programmed at the place that the rules find; the programs are one and the load of each block as it is cleaned, the erases those
-- blocks
pub record Spent (s : Store) (call : Call) (t : Store) (programs erases : ℕ) : Type 0 where
  pub acts : List Act
  pub all_taken : TakesAll s.n s.p s.flash acts
  pub contents : t.flash ≡ runs s.flash acts
  pub numbers : counts acts ≡ (programs, erases)
  pub finds : Finds s.flash acts (record_of 2048 (recs s) call)

-- a collect cleaned once, with so many programs and one erase, each taken by the chip
pub record CleanedOnce (s t : Store) (copies : ℕ) : Type 0 where
  pub all_taken : TakesAll s.n s.p s.flash (clean s.flash)
  pub contents : t.flash ≡ runs s.flash (clean s.flash)
  pub numbers : counts (clean s.flash) ≡ (copies, 1)

-- only the contents and how the blocks stand may have changed
pub record OnlyContents (s t : Store) : Type 0 where
  pub same_n : t.n ≡ s.n
  pub same_p : t.p ≡ s.p
  pub same_power : t.power ≡ s.power
  pub same_running : t.running ≡ s.running
  pub same_open : t.opened ≡ s.opened

-- whether the call was accepted: it was not refused; of a change that answered 7, exactly if the contents hold the record it was to add
abbrev pub made : Store → Event → Made
made s e = record { call = e.call; taken = taken 2048 s e.call e.answer e.after }

-- (1) the files of the contents, by the reading rule, are the right files: names, lengths and chunks
abbrev pub FilesAreRight : Files → Store → Type 0
FilesAreRight rights s = (o : ℕ) → files (recs s) o ≡ rights o

-- (2) mount accepts the contents
abbrev pub MountAccepts : Store → Type 0
MountAccepts s = verdict s.n s.p s.flash.blocks ≡ None

-- (2) a create or put that no earlier check refuses is answered 27 exactly where the right files with it done would use over (N−1)×P−1 chunks
pub record Exactly27 (rights : Files) (s : Store) (e : Event) : Type 0 where
  pub only : e.answer ≡ refused 27 → limit s.n s.p < used_by (accepted rights e.call)
  pub always : limit s.n s.p < used_by (accepted rights e.call) → e.answer ≡ refused 27

-- a change or a collect: the calls that program and erase
abbrev pub Writes : Call → Type 0
Writes call = IsChange call ⊎ IsCollect call

-- 7, at the act x: acts before it are done, each taken; of x itself the contents hold what the chip rules allow of a failed program or erase; the chip is
-- off and the store stopped, and open files stay open
pub record BrokenOff (s : Store) (call : Call) (x : Act) (t : Store) : Type 0 where
  pub writes : Writes call
  pub acts : List Act
  pub all_taken : TakesAll s.n s.p s.flash acts
  pub contents : Breaks s.flash acts x t.flash.blocks
  pub stopped : Stopped s t

-- what each answer says of the store before and after the call
abbrev pub Says : Store → Call → Answer → Store → Type 0
-- a refusal: nothing has changed, but that a refused mount has restarted the chip and stopped the store, with no file open
Says s call (refused k) t = t ≡ when_refused s call
-- (3) a change: 1 to P programs and at most two erases, and these are the numbers that the chip made
Says s call (counted a b) t = IsChange call × (1 ≤ a) × (a ≤ s.p) × (b ≤ 2) × Spent s call t a b × OnlyContents s t
-- a collect: the closed block of least load was cleaned, with fewer than P copies, and they are the programs that the chip made
Says s call (collected b k) t = IsCollect call × (to_clean s.flash ≡ Some (b, k)) × (k < s.p) × CleanedOnce s t k × OnlyContents s t
-- open, close, mount: which files are open now, and that the store runs
Says s call granted t = Granted s call t
Says s call (broken x) t = BrokenOff s call x t

-- one call of a run: the right files before it, the store before it, the call with its answer and the store after it
pub record Right (rights : Files) (s : Store) (e : Event) : Type 0 where
  -- a refusal is by the smallest number of the call's table that fits
  pub refuses : (k : ℕ) → e.answer ≡ refused k → (refusal s e.call ≡ k) × (1 ≤ k)
  -- and where a number fits, the call is refused
  pub refused' : refusal s e.call ≢ 0 → e.answer ≡ refused (refusal s e.call)
  pub says : Says s e.call e.answer e.after
  -- after the call, also while the store is stopped, the files are the right files, which the call has changed if it was accepted
  pub files_are_right : FilesAreRight (after rights (made s e)) e.after
  pub mount_accepts : MountAccepts e.after
  pub exactly27 : Fills e.call → first_of (early_table s e.call) ≡ 0 → Exactly27 rights s e

-- every call of a run, each with the right files and the store that those before it left
abbrev pub AllRight : Files → Store → List Event → Type 0
AllRight rights s [] = Unit {0}
AllRight rights s (e ∷ es) = Right rights s e × AllRight (after rights (made s e)) e.after es

-- each answer, as it is handed to the caller, tells of one call's answer
abbrev pub AllTell : {V : Type 0} → (V → Answer → Type 0) → List V → List Event → Type 0
AllTell f [] [] = Unit {0}
AllTell f [] (e ∷ es) = ⊥
AllTell f (v ∷ vs) [] = ⊥
AllTell f (v ∷ vs) (e ∷ es) = f v e.answer × AllTell f vs es

-- the law: these calls were made one after the other, of a store that stood at s; these are their answers; and the store stands at t now
pub record Law {V : Type 0} (f : V → Answer → Type 0) (s : Store) (calls : List Call) (answers : List V) (t : Store) : Type 0 where
  pub events : List Event
  pub made_all : map (λ (e : Event). e.call) events ≡ calls
  pub answered : AllTell f answers events
  pub ends : last_of s events ≡ t
  -- the right files start as the files of the contents that were mounted
  pub all_right : AllRight (files (recs s)) s events
