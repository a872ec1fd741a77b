-- A file opened for one change, and closed after it. Assumes nothing.
use Rattle.std.specs.Prelude.{ℕ, ◌⊎◌, Ok, Err, Result}
use Rattle.cleaning.specs.declared.adds.Counts.{Counts}
use Rattle.rules.specs.Calls.{Call, opens, closes}
use Rattle.rules.specs.Machine.{Step, granted}
use Rattle.rules.specs.Refusals.{Store}
use Rattle.scan.specs.declared.refusals.Refusal.{Refusal}
use Rattle.store.specs.Changes.{Changed, Refused}

-- the change is made in between
pub record Between (s : Store) (o : ℕ) (call : Call) (r : Result Counts Refusal) (t : Store) : Type 0 where
  pub before : Store
  pub after : Store
  pub opened' : Step 2048 s (opens o) granted before
  pub changed : Changed before call r after
  pub closed : Step 2048 after (closes o) granted t

-- or the file cannot be opened
abbrev pub Lent : Store → ℕ → Call → Result Counts Refusal → Store → Type 0
Lent s o call (Ok c) t = Between s o call (Ok c) t
Lent s o call (Err e) t = Refused s (opens o) e t ⊎ Between s o call (Err e) t
