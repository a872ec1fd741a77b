-- The object of the file of a name, found or created. Assumes nothing.
use Rattle.std.specs.Prelude.{◌≡◌, ℕ, ◌≤◌, true, List, Some, None, Option, Ok, Err, Result}
use Rattle.cleaning.specs.declared.adds.Counts.{Counts}
use Rattle.rules.specs.Calls.{find}
use Rattle.rules.specs.Lists.{within}
use Rattle.rules.specs.Reading.{File, Files, files}
use Rattle.rules.specs.Refusals.{Store, recs}
use Rattle.rules.specs.Right.{changed, fresh, renamed}
use Rattle.rules.specs.Runs.{Holds}
use Rattle.scan.specs.declared.refusals.Refusal.{Refusal}
use Rattle.edits.specs.Puts.{IsObjectFor, Unmade}

-- a store that still runs, of the same sizes, whose files are these
pub record Turned (s : Store) (fs : Files) (t : Store) : Type 0 where
  pub holds : Holds 2048 t
  pub running : t.running ≡ true
  pub same_n : t.n ≡ s.n
  pub same_p : t.p ≡ s.p
  pub files_are : (o : ℕ) → files (recs t) o ≡ fs o

-- a file of this name, which is empty where there was none
abbrev pub called : List ℕ → Option File → Option File
called name None = fresh name None
called name (Some f) = renamed name (Some f)

pub record Made (s : Store) (name : List ℕ) (o : ℕ) (c : Counts) (t : Store) : Type 0 where
  pub real : within 257 511 o ≡ true
  pub which : IsObjectFor (files (recs s)) (find (files (recs s)) name) o
  pub turned : Turned s (changed (files (recs s)) o (called name)) t
  pub opened' : t.opened ≡ s.opened
  pub programs : c.programs ≤ s.p
  pub erases : c.erases ≤ 2

abbrev pub Makes : Store → List ℕ → Result (ℕ × Counts) Refusal → Store → Type 0
Makes s name (Ok (o, c)) t = Made s name o c t
Makes s name (Err e) t = Unmade (files (recs s)) name e
