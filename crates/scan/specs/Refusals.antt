-- The refusals of the store: the number of each, and what it carries. Assumes nothing.
use Rattle.std.specs.Prelude.{ℕ, List, [], ◌∷◌}
use Rattle.flash.specs.declared.chunks.Place.{Place}
use Rattle.flash.specs.Faults.{Told, told as fault_told}
use Rattle.scan.specs.declared.refusals.Refusal.{Refusal}
use Rattle.scan.specs.declared.refusals.Refusal.TheVariants.{Chip, BadSizes, BadRecord, SerialClash, SameNames, FilesTooLarge, NoWayOn, Stopped, BadObject, BadNumber, BadCount, BadName, NotPresent, AlreadyPresent, NameTaken, IsOpen, NotOpen, NotShorter, NoSerial, NoRoom, NothingToClean, FewRows}

-- a place, as a refusal tells it
abbrev pub place_told : Place → List ℕ
place_told q = q.block ∷ q.chunk ∷ []

-- what a refusal tells: its number, and the values that it carries
abbrev pub told : Refusal → Told
told (Chip f) = fault_told f
told BadSizes = (9, [])
told (BadRecord q) = (10, place_told q)
told (SerialClash q) = (11, place_told q)
told SameNames = (12, [])
told FilesTooLarge = (13, [])
told NoWayOn = (14, [])
told Stopped = (15, [])
told BadObject = (16, [])
told BadNumber = (17, [])
told BadCount = (18, [])
told BadName = (19, [])
told NotPresent = (20, [])
told AlreadyPresent = (21, [])
told NameTaken = (22, [])
told IsOpen = (23, [])
told NotOpen = (24, [])
told NotShorter = (25, [])
told NoSerial = (26, [])
told NoRoom = (27, [])
told NothingToClean = (28, [])
told FewRows = (29, [])
