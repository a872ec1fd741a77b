-- What a find by name tells of the object found. Assumes nothing.
use Rattle.std.proofs.Common.{◌≡◌, ℕ, zero, suc, ◌+◌, ◌≤◌, ◌<◌, true, false, Bool, cond, List, Some, None, Option, refl, ◌∙◌, arith}
use Rattle.flash.specs.declared.chunks.Record.{Record}
use Rattle.rules.specs.Calls.{up_from, objects, find_in, find}
use Rattle.rules.specs.Lists.{is_there, within}
use Rattle.rules.specs.Reading.{File, Files, files, named, present}
use Rattle.rules.proofs.Filed.{present-file}

named-there : (name : List ℕ) (m : Option File) → named name m ≡ true → is_there m ≡ true
named-there name None e = grind arith
named-there name (Some f) e = refl

module _ (fs : Files) (name : List ℕ) (o : ℕ) where
  abbrev Told : ℕ → ℕ → Type 0
  Told k i = (i ≤ o) × (o < i + k) × (is_there (fs o) ≡ true)

  -- the first of the objects has the name, or a later one is found
  told-at : (k i : ℕ) (b : Bool) → named name (fs i) ≡ b → (find_in fs name (up_from (suc i) k) ≡ Some o → Told k (suc i)) → cond b (Some i) (find_in fs name (up_from (suc i) k)) ≡ Some o → Told (suc k) i
  told-at k i true n later e = grind (arith, named-there)
  told-at k i false n later e = let h = later e in (omega (arith, h.0), omega (arith, h.1), h.2)

  told-in : (k i : ℕ) → find_in fs name (up_from i k) ≡ Some o → Told k i
  told-in zero i e = grind arith
  told-in (suc k) i e = told-at k i (named name (fs i)) refl (told-in k (suc i)) e

told-here : (fs : Files) (name : List ℕ) (o : ℕ) → find fs name ≡ Some o → Told fs name o 255 257
unfolding find objects
told-here fs name o e = told-in fs name o 255 257 e

pub found_object : (rs : List Record) (name : List ℕ) (o : ℕ) → find (files rs) name ≡ Some o → (within 257 511 o ≡ true) × (present rs o ≡ true)
found_object rs name o e = let h = told-here (files rs) name o e in (grind (arith, h.0, h.1), present-file rs o ∙ h.2)
