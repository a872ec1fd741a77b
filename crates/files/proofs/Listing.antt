-- The rows of a store's files. Assumes nothing.
use Rattle.std.proofs.Common.{◌≡◌, ℕ, zero, suc, ◌+◌, ◌≤◌, ◌<◌, true, List, [], ◌++◌, length, drop, Some, None, Option, refl, ap, ◌∙◌, arith}
use Rattle.std.proofs.lemmas.Grind.{common_steps}
use Rattle.std.proofs.lemmas.List.{drop_all, append-nil}
use Rattle.std.proofs.lemmas.List.Elements.{All-append}
use Rattle.std.specs.List.{All}
use Rattle.rules.specs.declared.rows.Row.{Row}
use Rattle.rules.specs.Calls.{up_from, objects, row_of, rows_in, rows}
use Rattle.rules.specs.Lists.{is_there}
use Rattle.rules.specs.Reading.{File, Files, files}
use Rattle.rules.specs.Refusals.{Store, recs}
use Rattle.rules.proofs.Filed.{present-file}
use Rattle.scan.specs.declared.refusals.Refusal.{Refusal}
use Rattle.scan.specs.Refusals.{told}
use Rattle.files.specs.Listing.{IsFile}

-- every refusal has a number
pub never_zero : (e : Refusal) → told e ≡ (0, []) → ⊥
never_zero e h = grind arith

-- a list into as many rows as there are files
pub rows_filled : (all was is : List Row) → length was ≡ length all → is ≡ all ++ drop (length all) was → is ≡ all
rows_filled all was is l h = h ∙ ap (λ (more : List Row). all ++ more) (drop_all (length all) was (omega (arith, l))) ∙ append-nil all

-- each row's object has a file and is in range
module _ (fs : Files) where
  abbrev Told : ℕ → ℕ → Row → Type 0
  Told k i r = (i ≤ r.object) × (r.object < i + k) × (is_there (fs r.object) ≡ true)

  one-told : (k i : ℕ) (m : Option File) → fs i ≡ m → All (Told (suc k) i) (row_of i m)
  one-told k i None e = λ n d l. absurd (omega (arith, l))
  one-told k i (Some f) e = λ n d l. grind arith

  told-in : (k i : ℕ) → All (Told k i) (rows_in fs (up_from i k))
  told-in zero i = λ n d l. absurd (omega (arith, l))
  told-in (suc k) i = All-append (Told (suc k) i) (row_of i (fs i)) (rows_in fs (up_from (suc i) k)) (one-told k i (fs i) refl)
      (λ n d l. let h = told-in k (suc i) n d l in (omega (arith, h.0), omega (arith, h.1), h.2))

  told-here : All (Told 255 257) (rows fs)
  unfolding rows objects
  told-here = told-in 255 257

pub rows_are_files : (s : Store) → s.running ≡ true → All (IsFile s) (rows (files (recs s)))
rows_are_files s r = λ n d l. let h = told-here (files (recs s)) n d l in grind (arith, common_steps, present-file)
