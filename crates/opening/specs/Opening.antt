-- The store over the bytes of an image. Assumes nothing.
use Rattle.std.specs.Prelude.{◌≡◌, ℕ, true, false, List, Some, None, Option}
use Rattle.flash.specs.declared.chips.Chip.{Ghosts}
use Rattle.flash.specs.Faults.{misfit_number}
use Rattle.flash.specs.Model.{started, blocks_of}
use Rattle.image.specs.declared.images.ImageChip.{ImageChip}
use Rattle.image.specs.Format.{misfit, image_of}
use Rattle.rules.specs.Mounting.{Fault, verdict, mounted}
use Rattle.scan.specs.Mounts.{fault_of}
use Rattle.scan.specs.Refusals.{told}
use Rattle.store.specs.declared.stores.Store.{Store as Kept}
use Rattle.store.specs.Stores.{NoneHeld}
use Rattle.store.specs.Stored.{stored}
use Rattle.texts.specs.declared.stops.Stop.{Stop}
use Rattle.texts.specs.declared.stops.Stop.TheVariants.{Memory, Refused, Store}

-- mount's verdict on an image
abbrev pub verdict_on : List ℕ → Option Fault
verdict_on xs = verdict (image_of xs).n (image_of xs).p (blocks_of (image_of xs))

-- the bytes are an image, and mount accepts what it holds
pub record Accepted (xs : List ℕ) : Type 0 where
  pub image : misfit xs ≡ 0
  pub mounts : verdict_on xs ≡ None

-- a stopped store over the chip in an image
pub record IsAttached {chip : Ghosts ImageChip} (xs : List ℕ) (s : Kept ImageChip chip) : Type 0 where
  pub image : misfit xs ≡ 0
  pub same : chip.model s.chip ≡ image_of xs
  pub stopped : (stored s).running ≡ false

-- a running store over the chip in an image, restarted and as mount leaves it, with no file open
pub record IsOpened {chip : Ghosts ImageChip} (xs : List ℕ) (s : Kept ImageChip chip) : Type 0 where
  pub accepted : Accepted xs
  pub same : chip.model s.chip ≡ started (image_of xs)
  pub running : (stored s).running ≡ true
  pub flash : (stored s).flash ≡ mounted (blocks_of (image_of xs))
  pub unheld : NoneHeld s.held

-- no store over the bytes: no memory was left, or they are no image
abbrev pub NotAttached : List ℕ → Stop → Type 0
NotAttached xs Memory = Unit {0}
NotAttached xs (Refused m) = misfit xs ≡ misfit_number m
NotAttached xs (Store e) = ⊥

-- or mount refused what the image holds
abbrev pub NotOpened : List ℕ → Stop → Type 0
NotOpened xs Memory = Unit {0}
NotOpened xs (Refused m) = misfit xs ≡ misfit_number m
NotOpened xs (Store e) = (misfit xs ≡ 0) × (verdict_on xs ≡ Some (fault_of (told e)))
