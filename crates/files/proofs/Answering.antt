-- What a store over an image answers is of the image. Assumes nothing.
use Rattle.std.proofs.Common.{◌≡◌, ℕ, List, [], Option, ap, sym, subst}
use Rattle.flash.specs.declared.chips.Chip.{Ghosts}
use Rattle.flash.specs.Blocks.{standing}
use Rattle.image.specs.declared.images.ImageChip.{ImageChip}
use Rattle.rules.specs.Mounting.{Fault}
use Rattle.rules.specs.Places.{Flash}
use Rattle.rules.specs.Reading.{files}
use Rattle.rules.specs.Refusals.{Table, first_of, recs}
use Rattle.scan.specs.declared.refusals.Refusal.{Refusal}
use Rattle.scan.specs.Refusals.{told}
use Rattle.store.specs.declared.stores.Store.{Store as Kept}
use Rattle.store.specs.Stored.{stored}
use Rattle.texts.specs.declared.stops.Stop.TheVariants.{Store}
use Rattle.opening.specs.Opening.{Accepted, IsOpened}
use Rattle.files.specs.Answers.{files_on, RefusedBy, NotAnswered}

-- the files of the store are those of the image
pub files_same : {chip : Ghosts ImageChip} (xs : List ℕ) (s : Kept ImageChip chip) → IsOpened xs s → files (recs (stored s)) ≡ files_on xs
files_same xs s o = ap {A = Flash} (λ t. files (standing t.blocks)) o.flash

-- mount accepts, and so a refusal is one of the table's
pub refused_so : (xs : List ℕ) (table : Table) (e : Refusal) → Accepted xs → told e ≡ (first_of table, []) → NotAnswered xs table (Store e)
refused_so xs table e a t = (a.image, subst (λ (v : Option Fault). RefusedBy v table e) (sym a.mounts) t)
