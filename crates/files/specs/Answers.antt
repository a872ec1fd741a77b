-- The files of an image, and why a question about them gets no answer. Assumes nothing.
use Rattle.std.specs.Prelude.{◌≡◌, ℕ, List, [], Some, None, Option}
use Rattle.flash.specs.Blocks.{standing}
use Rattle.flash.specs.Faults.{misfit_number}
use Rattle.flash.specs.Model.{blocks_of}
use Rattle.image.specs.Format.{misfit, image_of}
use Rattle.rules.specs.Mounting.{Fault}
use Rattle.rules.specs.Reading.{Files, files}
use Rattle.rules.specs.Refusals.{Table, first_of}
use Rattle.scan.specs.declared.refusals.Refusal.{Refusal}
use Rattle.scan.specs.Mounts.{fault_of}
use Rattle.scan.specs.Refusals.{told}
use Rattle.opening.specs.Opening.{verdict_on}
use Rattle.texts.specs.declared.stops.Stop.{Stop}
use Rattle.texts.specs.declared.stops.Stop.TheVariants.{Memory, Refused, Store}

-- the files of an image, by the reading rule
abbrev pub files_on : List ℕ → Files
files_on xs = files (standing (blocks_of (image_of xs)))

-- mount's verdict; or, where it accepts, the first refusal of the table that fits
abbrev pub RefusedBy : Option Fault → Table → Refusal → Type 0
RefusedBy (Some f) table e = fault_of (told e) ≡ f
RefusedBy None table e = told e ≡ (first_of table, [])

-- no answer: no memory was left; the bytes are no image; mount refuses what it holds; or the question is refused by its table
abbrev pub NotAnswered : List ℕ → Table → Stop → Type 0
NotAnswered xs table Memory = Unit {0}
NotAnswered xs table (Refused m) = misfit xs ≡ misfit_number m
NotAnswered xs table (Store e) = (misfit xs ≡ 0) × RefusedBy (verdict_on xs) table e
