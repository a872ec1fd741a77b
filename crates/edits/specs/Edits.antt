-- An image after a change of the file of a name, and why there is none. Assumes nothing.
use Rattle.std.specs.Prelude.{◌≡◌, ℕ, ◌≤◌, true, ◌⊎◌, List, Some, None, vec_items}
use Rattle.cleaning.specs.declared.adds.Counts.{Counts}
use Rattle.flash.specs.declared.faults.Act.{Act}
use Rattle.flash.specs.declared.faults.Fault.TheVariants.{SupplyFailed}
use Rattle.flash.specs.Faults.{misfit_number}
use Rattle.image.specs.Format.{misfit, image_of}
use Rattle.rules.specs.Calls.{Call, find}
use Rattle.rules.specs.Reading.{Files}
use Rattle.rules.specs.Refusals.{Table, first_of}
use Rattle.rules.specs.Right.{accepted}
use Rattle.scan.specs.declared.refusals.Refusal.{Refusal}
use Rattle.scan.specs.declared.refusals.Refusal.TheVariants.{Chip}
use Rattle.opening.specs.Opening.{Accepted, verdict_on}
use Rattle.texts.specs.declared.stops.Stop.{Stop}
use Rattle.texts.specs.declared.stops.Stop.TheVariants.{Memory, Refused, Store}
use Rattle.files.specs.Answers.{files_on, RefusedBy}
use Rattle.edits.specs.declared.edited.Edited.{Edited}

-- an image that mount accepts, of the same sizes and on, whose files are these
pub record Becomes (xs : List ℕ) (fs : Files) (ys : List ℕ) : Type 0 where
  pub accepted' : Accepted ys
  pub blocks : (image_of ys).n ≡ (image_of xs).n
  pub chunks : (image_of ys).p ≡ (image_of xs).p
  pub power : (image_of ys).on ≡ true
  pub files_are : (o : ℕ) → files_on ys o ≡ fs o

-- what one change costs: 1 to P programs and at most two erases
pub record Cheap (xs : List ℕ) (c : Counts) : Type 0 where
  pub some : 1 ≤ c.programs
  pub programs : c.programs ≤ (image_of xs).p
  pub erases : c.erases ≤ 2

-- the file of the name is there, and no refusal fits; the files become what the call, made of its object and accepted, makes of them
pub record IsEdited (xs name : List ℕ) (table : Table) (call : ℕ → Call) (e : Edited) : Type 0 where
  pub was : Accepted xs
  pub object : ℕ
  pub found : find (files_on xs) name ≡ Some object
  pub free : first_of table ≡ 0
  pub is : Becomes xs (accepted (files_on xs) (call object)) (vec_items e.bytes)
  pub cheap : Cheap xs e.counts

-- 7, which the contracts of a store over any chip allow; the chip in an image never fails
pub record Failed (xs : List ℕ) (e : Refusal) : Type 0 where
  pub mounts : verdict_on xs ≡ None
  pub act : Act
  pub is : e ≡ Chip (SupplyFailed act)

-- no memory was left; the bytes are no image; mount refuses what it holds; or the change is refused by its table
abbrev pub NotEdited : List ℕ → Table → Stop → Type 0
NotEdited xs table Memory = Unit {0}
NotEdited xs table (Refused m) = misfit xs ≡ misfit_number m
NotEdited xs table (Store e) = (misfit xs ≡ 0) × (RefusedBy (verdict_on xs) table e ⊎ Failed xs e)
