-- Open and close: what each answers and leaves. Assumes nothing.
use Rattle.std.specs.Prelude.{◌≡◌, ℕ, Ok, Err, Result}
use Rattle.rules.specs.Calls.{opens, closes}
use Rattle.rules.specs.Machine.{Step, granted}
use Rattle.rules.specs.Refusals.{Store}
use Rattle.scan.specs.declared.refusals.Refusal.{Refusal}
use Rattle.store.specs.declared.tickets.Ticket.{Ticket}
use Rattle.store.specs.Changes.{Refused}

-- the file is open now, and the ticket is of its object; or it is refused
abbrev pub Opened : Store → ℕ → Result Ticket Refusal → Store → Type 0
Opened s o (Ok k) t = (k.object ≡ o) × Step 2048 s (opens o) granted t
Opened s o (Err e) t = Refused s (opens o) e t

-- the file is not open now; or it is refused
abbrev pub Closed : Store → ℕ → Result (Unit {0}) Refusal → Store → Type 0
Closed s o (Ok u) t = Step 2048 s (closes o) granted t
Closed s o (Err e) t = Refused s (closes o) e t
