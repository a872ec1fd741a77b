-- An image after bytes are put into the file of a name, and why there is none. Assumes nothing.
use Rattle.std.specs.Prelude.{◌≡◌, ℕ, ◌+◌, ◌-◌, ◌*◌, ◌<◌, ◌≤◌, true, cond, ◌⊎◌, List, [], length, take, drop, Some, None, Option, vec_items}
use Rattle.std.specs.Int.{div_ceil}
use Rattle.flash.specs.declared.faults.Act.{Act}
use Rattle.flash.specs.declared.faults.Fault.TheVariants.{SupplyFailed}
use Rattle.flash.specs.Faults.{misfit_number}
use Rattle.image.specs.Format.{misfit, image_of}
use Rattle.rules.specs.Calls.{find}
use Rattle.rules.specs.Lists.{within, is_there}
use Rattle.rules.specs.Mounting.{Fault}
use Rattle.rules.specs.Reading.{File, Files}
use Rattle.rules.specs.Refusals.{no_name}
use Rattle.rules.specs.Right.{changed}
use Rattle.scan.specs.declared.refusals.Refusal.{Refusal}
use Rattle.scan.specs.declared.refusals.Refusal.TheVariants.{Chip}
use Rattle.scan.specs.Mounts.{fault_of}
use Rattle.scan.specs.Refusals.{told}
use Rattle.opening.specs.Opening.{Accepted, verdict_on}
use Rattle.texts.specs.declared.stops.Stop.{Stop}
use Rattle.texts.specs.declared.stops.Stop.TheVariants.{Memory, Refused, Store}
use Rattle.files.specs.Answers.{files_on}
use Rattle.edits.specs.declared.edited.Edited.{Edited}
use Rattle.edits.specs.Edits.{Becomes}

-- bytes in chunks of 2,048, the last as long as it comes: how many, and chunk j, counted from 1
abbrev pub chunks_in : List ℕ → ℕ
chunks_in content = div_ceil (length content) 2048

abbrev pub chunk_of : List ℕ → ℕ → List ℕ
chunk_of content j = take 2048 (drop ((j - 1) * 2048) content)

-- the file of a name that has these bytes: each of their chunks is there, and no other
abbrev pub file_with : List ℕ → List ℕ → File
file_with name content = record { name = name; long = chunks_in content; part = λ j. cond (within 1 (chunks_in content) j) (Some (chunk_of content j)) None }

-- the lowest object number that has no file
pub record IsLowest (fs : Files) (o : ℕ) : Type 0 where
  pub real : within 257 511 o ≡ true
  pub free : fs o ≡ None
  pub below : (k : ℕ) → 257 ≤ k → k < o → is_there (fs k) ≡ true

abbrev pub AllTaken : Files → Type 0
AllTaken fs = (k : ℕ) → within 257 511 k ≡ true → is_there (fs k) ≡ true

-- the object whose file has the name; or, where there is none, the lowest without a file
abbrev pub IsObjectFor : Files → Option ℕ → ℕ → Type 0
IsObjectFor fs None o = IsLowest fs o
IsObjectFor fs (Some k) o = o ≡ k

-- the object has the file of this name with these bytes, and the others are as they were. No chunk is put more than once; beside the chunks there may be
-- one create and one cut; each of these costs at most P programs and two erases
pub record IsPut (xs name content : List ℕ) (e : Edited) : Type 0 where
  pub was : Accepted xs
  pub object : ℕ
  pub which : IsObjectFor (files_on xs) (find (files_on xs) name) object
  pub is : Becomes xs (changed (files_on xs) object (λ f. Some (file_with name content))) (vec_items e.bytes)
  pub least : chunks_in content ≤ e.counts.programs
  pub most : e.counts.programs ≤ (chunks_in content + 2) * (image_of xs).p
  pub erases : e.counts.erases ≤ (chunks_in content + 2) * 2

-- 7, which the contracts of a store over any chip allow; the chip in an image never fails
abbrev pub SupplyFails : Refusal → Type 0
SupplyFails e = (a : Act) × (e ≡ Chip (SupplyFailed a))

-- 26, at whichever change the serials end
abbrev pub Unspent : Refusal → Type 0
Unspent e = (told e ≡ (26, [])) ⊎ SupplyFails e

-- 17 for more than 1,000 chunks; 27, at whichever chunk the room ends
abbrev pub Unwritten : List ℕ → Refusal → Type 0
Unwritten content e = ((told e ≡ (17, [])) × (1000 < chunks_in content)) ⊎ ((told e ≡ (27, [])) ⊎ Unspent e)

-- 16: every object has a file, and none of them the name
pub record NoneFree (fs : Files) (name : List ℕ) (e : Refusal) : Type 0 where
  pub number : told e ≡ (16, [])
  pub none : find fs name ≡ None
  pub all : AllTaken fs

-- 19: the bytes are no name
abbrev pub Unmade : Files → List ℕ → Refusal → Type 0
Unmade fs name e = ((told e ≡ (19, [])) × (no_name name ≡ true)) ⊎ (NoneFree fs name e ⊎ ((told e ≡ (27, [])) ⊎ Unspent e))

-- mount's verdict; or, where it accepts, why the file cannot be made or written
abbrev pub WhyNotPut : Option Fault → Files → List ℕ → List ℕ → Refusal → Type 0
WhyNotPut (Some f) fs name content e = fault_of (told e) ≡ f
WhyNotPut None fs name content e = Unmade fs name e ⊎ Unwritten content e

abbrev pub NotPut : List ℕ → List ℕ → List ℕ → Stop → Type 0
NotPut xs name content Memory = Unit {0}
NotPut xs name content (Refused m) = misfit xs ≡ misfit_number m
NotPut xs name content (Store e) = (misfit xs ≡ 0) × WhyNotPut (verdict_on xs) (files_on xs) name content e
