-- An image formatted. Assumes nothing.
use Rattle.std.specs.Prelude.{◌≡◌, ℕ, List, Ok, Err}
use Rattle.flash.specs.Faults.{misfit_number}
use Rattle.flash.specs.Model.{State}
use Rattle.image.specs.Format.{misfit, image_of}
use Rattle.scan.specs.Formats.{Formatted}
use Rattle.texts.specs.declared.stops.Stop.{Stop}
use Rattle.texts.specs.declared.stops.Stop.TheVariants.{Memory, Refused, Store}

-- an image again, after a format of its chip
pub record IsFormatted (xs ys : List ℕ) : Type 0 where
  pub was : misfit xs ≡ 0
  pub is : misfit ys ≡ 0
  pub done : Formatted (image_of xs) (Ok tt) (image_of ys)

-- no memory was left; or the bytes are no image; or the chip cannot be formatted
abbrev pub NotFormatted : List ℕ → Stop → Type 0
NotFormatted xs Memory = Unit {0}
NotFormatted xs (Refused m) = misfit xs ≡ misfit_number m
NotFormatted xs (Store e) = (misfit xs ≡ 0) × ((t : State) × Formatted (image_of xs) (Err e) t)
