-- What the demonstration tells. Assumes nothing.
use Rattle.std.specs.Prelude.{◌≡◌, ℕ, false, List, ◌++◌, length, Ok, Err, Result}
use Rattle.bench.specs.declared.benches.BenchChip.{BenchChip}
use Rattle.flash.specs.declared.chips.Chip.{Ghosts}
use Rattle.flash.specs.Model.{State, started, blocks_of}
use Rattle.image.specs.Blanks.{BlankChip}
use Rattle.lines.specs.Chunks.{chip_lines}
use Rattle.rules.specs.Calls.{Call, rows}
use Rattle.rules.specs.Mounting.{verdict}
use Rattle.rules.specs.Reading.{files}
use Rattle.rules.specs.Refusals.{Store, recs}
use Rattle.runs.specs.Runs.{Ran}
use Rattle.scan.specs.Mounts.{verdict_of}
use Rattle.scan.specs.Refusals.{told}
use Rattle.store.specs.declared.making.Answer.{Answer}
use Rattle.store.specs.declared.stores.Store.{Store as Kept}
use Rattle.store.specs.Stored.{stored}
use Rattle.texts.specs.declared.stops.Stop.{Stop}
use Rattle.texts.specs.declared.stops.Stop.TheVariants.{Memory, Refused, Store as Denied}
use Rattle.demos.specs.Story.{first_calls, second_calls, begins, fails, goes_on, ends}
use Rattle.demos.specs.Telling.{call_lines, file_lines}

-- a store and the chip that it is on
pub record IsOn (s : State) (t : Store) : Type 0 where
  pub n_same : t.n ≡ s.n
  pub p_same : t.p ≡ s.p
  pub power_same : t.power ≡ s.on
  pub contents : t.flash.blocks ≡ blocks_of s

-- a stopped store with no file open
pub record Attached (s : State) (t : Store) : Type 0 where
  pub chip : IsOn s t
  pub stopped : t.running ≡ false
  pub none_open : (o : ℕ) → t.opened o ≡ false

-- calls made on a store that was attached to the chip s, a line for each; then the chip is t, and the store stands at left
pub record Played (s : State) (calls : List Call) (text : List ℕ) (t : State) (left : Store) : Type 0 where
  pub begun : Store
  pub attached : Attached s begun
  pub rows : List Answer
  pub answers : List Answer
  pub ran : Ran begun calls rows (Ok (length calls)) left answers
  pub told : text ≡ call_lines calls answers
  pub chip : IsOn t left

-- a line for each file, by rising object number
abbrev pub all_lines : Store → List ℕ
all_lines s = file_lines (files (recs s)) (rows (files (recs s)))

-- the first calls on a blank chip of three blocks of four; what each chunk then is; the second calls after a restart; and the files
pub record Demonstrated (text : List ℕ) : Type 0 where
  pub blank : State
  pub is_blank : BlankChip 3 4 blank
  pub first_told : List ℕ
  pub broken : State
  pub stopped : Store
  pub first : Played blank (first_calls 257) first_told broken stopped
  pub second_told : List ℕ
  pub chip : State
  pub store : Store
  pub second : Played (started broken) (second_calls 257) second_told chip store
  pub whole : text ≡ begins ++ (first_told ++ (fails ++ (chip_lines (started broken) broken.n ++ (goes_on ++ (second_told ++ (ends ++ all_lines store))))))

-- no text: no memory was left; or the supply failed once more, and the store is stopped (15)
abbrev pub NotTold : Stop → Type 0
NotTold Memory = Unit {0}
NotTold (Refused m) = ⊥
NotTold (Denied e) = (told e).0 ≡ 15

-- a text with a line added for each call that was played
pub record Told (s : State) (calls : List Call) (before after : List ℕ) (t : State) (left : Store) : Type 0 where
  pub text : List ℕ
  pub played : Played s calls text t left
  pub added : after ≡ before ++ text

-- no memory was left; or mount refuses what the chip holds
abbrev pub NotPlayed : State → Stop → Type 0
NotPlayed s Memory = Unit {0}
NotPlayed s (Refused m) = ⊥
NotPlayed s (Denied e) = verdict_of (Err e) ≡ verdict s.n s.p (blocks_of s)

-- calls played on a store over the chip s, which is handed back
abbrev pub Plays : {chip : Ghosts BenchChip} → State → List Call → List ℕ → Result (Kept BenchChip chip) Stop → List ℕ → Type 0
Plays {chip = c} s calls before (Ok k) after = Told s calls before after (c.model k.chip) (stored k)
Plays s calls before (Err e) after = NotPlayed s e
