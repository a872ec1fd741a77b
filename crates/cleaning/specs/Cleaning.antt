-- A cleaning, and a record added, as acts of the rules played on a chip and its index. Assumes nothing.
use Rattle.std.specs.Prelude.{◌≡◌, List, Ok, Err, Option, Result}
use Rattle.flash.specs.declared.chunks.Record.{Record}
use Rattle.flash.specs.declared.faults.Fault.{Fault}
use Rattle.flash.specs.Model.{State}
use Rattle.rules.specs.Places.{Flash, Act, clean, to_clean, plan, counts}
use Rattle.rules.specs.Runs.{TakesAll}
use Rattle.scan.specs.declared.indexes.Index.{Index}
use Rattle.places.specs.declared.victims.Victim.{Victim}
use Rattle.places.specs.Places.{victim_told}
use Rattle.writing.specs.Writing.{flash_of, Tells, AllDone, BrokenAt}
use Rattle.cleaning.specs.declared.adds.Counts.{Counts}

-- the acts of a cleaning are done, and the answer is the block to clean with its load, or none where no block is closed; or they are broken off
abbrev pub CleanedBy : State → Index → Result (Option Victim) Fault → State → Index → Type 0
CleanedBy s x (Ok v) t y = AllDone s x (clean (flash_of s x)) t y × (victim_told v ≡ to_clean (flash_of s x))
CleanedBy s x (Err f) t y = BrokenAt s x (clean (flash_of s x)) f t y

-- so it is where the index tells of the chip, and the chip takes the acts
abbrev pub CleanPlayed : State → Index → Result (Option Victim) Fault → State → Index → Type 0
CleanPlayed s x v t y = Tells s x → TakesAll s.n s.p (flash_of s x) (clean (flash_of s x)) → CleanedBy s x v t y

-- the acts that add a record, as the rules plan them
unfoldable pub acts_to_add : Flash → Record → List Act
acts_to_add f r = plan 9 f r

-- acts are done, and the answer is the number of their programs and of their erases; or they are broken off
abbrev pub AddedBy : State → Index → List Act → Result Counts Fault → State → Index → Type 0
AddedBy s x acts (Ok c) t y = AllDone s x acts t y × (counts acts ≡ (c.programs, c.erases))
AddedBy s x acts (Err f) t y = BrokenAt s x acts f t y

-- so it is of the acts that add a record, where the index tells of the chip, and the chip takes the acts
abbrev pub AddPlayed : State → Index → Record → Result Counts Fault → State → Index → Type 0
AddPlayed s x r v t y = Tells s x → TakesAll s.n s.p (flash_of s x) (acts_to_add (flash_of s x) r) → AddedBy s x (acts_to_add (flash_of s x) r) v t y
