-- A list of calls made on a store: that it is mounted first, and that the law holds of the calls. Assumes nothing.
use Rattle.std.specs.Prelude.{◌≡◌, ℕ, min, true, List, length, take, drop, Ok, Err, None, Result, ◌⊎◌}
use Rattle.flash.specs.declared.faults.Fault.TheVariants.{SupplyFailed}
use Rattle.rules.specs.Calls.{Call, mount}
use Rattle.rules.specs.Machine.{Answer, refused, counted, collected, granted, broken, none, Step, Run, when_refused}
use Rattle.rules.specs.Mounting.{mounted, verdict}
use Rattle.rules.specs.Places.{Act}
use Rattle.rules.specs.Reading.{files}
use Rattle.rules.specs.Refusals.{Store, recs}
use Rattle.rules.specs.Runs.{Holds}
use Rattle.scan.specs.declared.refusals.Refusal.{Refusal}
use Rattle.scan.specs.declared.refusals.Refusal.TheVariants.{Chip}
use Rattle.scan.specs.Mounts.{verdict_of}
use Rattle.scan.specs.Refusals.{told}
use Rattle.store.specs.declared.making.Answer.{Answer as Given}
use Rattle.store.specs.declared.making.Answer.TheVariants.{Counted, Collected, Granted, Refused}
use Rattle.writing.specs.Writing.{act_told}
use Rattle.runs.specs.Law.{Law, Right}

-- an answer handed to the caller tells of a call's answer: its counts, its block and copies, or its refusal's number; of 7 the act
abbrev pub Tells : Given → Answer → Type 0
Tells (Counted c) a = a ≡ counted c.programs c.erases
Tells (Collected b k) a = a ≡ collected b k
Tells Granted a = a ≡ granted
Tells (Refused e) a = (a ≡ refused (told e).0) ⊎ ((x : Act) × (a ≡ broken x) × (e ≡ Chip (SupplyFailed (act_told x))))

-- the store after a mount that accepts: it runs, its chip is on, no file is open, and every block that is not blank is closed
abbrev pub just_mounted : Store → Store
just_mounted s = record { n = s.n; p = s.p; power = true; running = true; opened = none; flash = mounted s.flash.blocks }

-- the law, and that each call answers and leaves what the rules allow it where the store stands then. So the stores between the calls follow from the one
-- before the first, but for what a failed program or erase left
pub record Lawful (s : Store) (calls : List Call) (answers : List Given) (t : Store) : Type 0 where
  pub law : Law Tells s calls answers t
  pub steps : Run 2048 s law.events

-- mount accepted: as many calls are made as there are rows for their answers, the law holds of them, and the rows beyond stay. Or mount refused: with
-- its verdict, the store is stopped, and no call was made
abbrev pub Ran : Store → List Call → List Given → Result ℕ Refusal → Store → List Given → Type 0
Ran s calls rows (Ok n) t rows' =
    (verdict s.n s.p s.flash.blocks ≡ None) × (n ≡ min (length calls) (length rows)) × (drop n rows' ≡ drop n rows) × Lawful (just_mounted s) (take n calls) (take n rows') t
Ran s calls rows (Err e) t rows' = (verdict_of (Err e) ≡ verdict s.n s.p s.flash.blocks) × (t ≡ when_refused s mount) × (rows' ≡ rows)

-- one call of a store that stands as between the calls of a run: the law holds of it, with the files of the contents for the right files before it, and
-- the store stands so again
pub record MadeRightly (s : Store) (call : Call) (v : Given) (t : Store) : Type 0 where
  pub answer : Answer
  pub tells : Tells v answer
  pub step : Step 2048 s call answer t
  pub right : Right (files (recs s)) s (record { call = call; answer = answer; after = t })
  pub holds : Holds 2048 t
