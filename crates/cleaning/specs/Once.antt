-- One cleaning with its copies counted. Only private functions cite this. Assumes nothing.
use Rattle.std.specs.Prelude.{◌≡◌, ℕ, ◌≤◌, Some, None, Ok, Err, Option, Result}
use Rattle.flash.specs.declared.faults.Fault.{Fault}
use Rattle.flash.specs.Model.{State}
use Rattle.rules.specs.Places.{clean, to_clean, counts}
use Rattle.rules.specs.Runs.{TakesAll}
use Rattle.scan.specs.declared.indexes.Index.{Index}
use Rattle.places.specs.declared.victims.Victim.{Victim}
use Rattle.places.specs.Places.{victim_told}
use Rattle.writing.specs.Writing.{flash_of, Tells, AllDone, BrokenAt}
use Rattle.cleaning.specs.declared.cleanings.Cleaned.{Cleaned}

abbrev pub victim_of : Option Cleaned → Option Victim
victim_of None = None
victim_of (Some c) = Some c.victim

-- how many programs and erases these were
abbrev pub counts_of : Option Cleaned → ℕ × ℕ
counts_of None = (0, 0)
counts_of (Some c) = (c.copies, 1)

abbrev pub FewCopies : Option Cleaned → Type 0
FewCopies None = Unit {0}
FewCopies (Some c) = c.copies ≤ 2048

-- a cleaning done, with its programs and erases; or broken off
abbrev pub CleanedOnce : State → Index → Result (Option Cleaned) Fault → State → Index → Type 0
CleanedOnce s x (Ok m) t y = AllDone s x (clean (flash_of s x)) t y × (victim_told (victim_of m) ≡ to_clean (flash_of s x)) × (counts (clean (flash_of s x)) ≡ counts_of m)
CleanedOnce s x (Err f) t y = BrokenAt s x (clean (flash_of s x)) f t y

abbrev pub OncePlayed : State → Index → Result (Option Cleaned) Fault → State → Index → Type 0
OncePlayed s x v t y = Tells s x → TakesAll s.n s.p (flash_of s x) (clean (flash_of s x)) → CleanedOnce s x v t y
