-- The changes and collect: what each answers and leaves. Assumes nothing.
use Rattle.std.specs.Prelude.{◌≡◌, ℕ, ◌⊎◌, [], None, Ok, Err, Option, Result}
use Rattle.flash.specs.declared.faults.Fault.TheVariants.{SupplyFailed}
use Rattle.rules.specs.Calls.{Call, collect}
use Rattle.rules.specs.Machine.{Step, refused, counted, collected, broken}
use Rattle.rules.specs.Mounting.{verdict}
use Rattle.rules.specs.Places.{Act}
use Rattle.rules.specs.Refusals.{Store, refusal}
use Rattle.scan.specs.declared.refusals.Refusal.{Refusal}
use Rattle.scan.specs.declared.refusals.Refusal.TheVariants.{Chip}
use Rattle.scan.specs.Refusals.{told}
use Rattle.cleaning.specs.declared.adds.Counts.{Counts}
use Rattle.writing.specs.Writing.{act_told}
use Rattle.cleaning.specs.Cleaning.{AddPlayed, CleanPlayed}
use Rattle.places.specs.declared.victims.Victim.{Victim}
use Rattle.flash.specs.declared.chunks.Record.{Record}
use Rattle.flash.specs.declared.faults.Fault.{Fault}
use Rattle.flash.specs.Model.{State}
use Rattle.scan.specs.declared.indexes.Index.{Index}

-- refused: the answer is the smallest refusal of the call's table that fits, which carries no values, and nothing has changed
pub record Refused (s : Store) (call : Call) (e : Refusal) (t : Store) : Type 0 where
  pub number : told e ≡ (refusal s call, [])
  pub step : Step 2048 s call (refused (refusal s call)) t

-- the supply failed at one of the call's acts: the answer is 7 with that act, those before it are done, of it the chip holds what its rules allow, the
-- store is stopped with its files still open, and mount would accept what the chip holds
pub record Broken (s : Store) (call : Call) (e : Refusal) (t : Store) : Type 0 where
  pub act : Act
  pub names : e ≡ Chip (SupplyFailed (act_told act))
  pub step : Step 2048 s call (broken act) t
  pub mounts : verdict t.n t.p t.flash.blocks ≡ None

-- a change: all its acts are done, and the two counts are theirs; or it is refused; or it is broken off
abbrev pub Changed : Store → Call → Result Counts Refusal → Store → Type 0
Changed s call (Ok c) t = Step 2048 s call (counted c.programs c.erases) t
Changed s call (Err e) t = Refused s call e t ⊎ Broken s call e t

-- a collect: its one cleaning is done, and the answer is the block with the number of its copies; or it is refused; or it is broken off
abbrev pub Collected : Store → Result (ℕ × ℕ) Refusal → Store → Type 0
Collected s (Ok (b, k)) t = Step 2048 s collect (collected b k) t
Collected s (Err e) t = Refused s collect e t ⊎ Broken s collect e t

-- a record added, as far as chip and index tell: its acts are played; a failure of the chip is handed on
abbrev pub AddTold : State → Index → Record → Result Counts Refusal → State → Index → Type 0
AddTold s x r (Ok c) t y = AddPlayed s x r (Ok c) t y
AddTold s x r (Err e) t y = (f : Fault) × (e ≡ Chip f) × AddPlayed s x r (Err f) t y

-- a cleaning, in the same way
abbrev pub CleanTold : State → Index → Result (Option Victim) Refusal → State → Index → Type 0
CleanTold s x (Ok v) t y = CleanPlayed s x (Ok v) t y
CleanTold s x (Err e) t y = (f : Fault) × (e ≡ Chip f) × CleanPlayed s x (Err f) t y
