-- What a refusal of the store itself says. Assumes nothing.
use Rattle.std.proofs.Common.{◌≡◌, refl}
use Rattle.std.specs.Prelude.{◌≢◌}
use Rattle.flash.specs.declared.faults.Fault.{Fault}
use Rattle.scan.specs.declared.refusals.Refusal.{Refusal}
use Rattle.scan.specs.declared.refusals.Refusal.TheVariants.{Chip, BadSizes, BadRecord, SerialClash, SameNames, FilesTooLarge, NoWayOn, Stopped, BadObject, BadNumber, BadCount, BadName, NotPresent, AlreadyPresent, NameTaken, IsOpen, NotOpen, NotShorter, NoSerial, NoRoom, NothingToClean, FewRows}
use Rattle.scan.specs.Words.{refusal_text, plain_text}

pub plain_said : (e : Refusal) → ((f : Fault) → e ≢ Chip f) → refusal_text e ≡ plain_text e
plain_said (Chip f) h = absurd (h f refl)
plain_said BadSizes h = refl
plain_said (BadRecord q) h = refl
plain_said (SerialClash q) h = refl
plain_said SameNames h = refl
plain_said FilesTooLarge h = refl
plain_said NoWayOn h = refl
plain_said Stopped h = refl
plain_said BadObject h = refl
plain_said BadNumber h = refl
plain_said BadCount h = refl
plain_said BadName h = refl
plain_said NotPresent h = refl
plain_said AlreadyPresent h = refl
plain_said NameTaken h = refl
plain_said IsOpen h = refl
plain_said NotOpen h = refl
plain_said NotShorter h = refl
plain_said NoSerial h = refl
plain_said NoRoom h = refl
plain_said NothingToClean h = refl
plain_said FewRows h = refl
