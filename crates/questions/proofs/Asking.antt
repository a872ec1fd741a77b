-- The questions, from what their steps answered. Assumes nothing.
use Rattle.std.proofs.Common.{◌≡◌, ℕ, Bool, true, false, leb, Some, None, Option, Result, sym, refl, subst, arith}
use Rattle.std.proofs.lemmas.Bool.{and_parts, leb-true}
use Rattle.std.proofs.lemmas.Grind.{common_steps}
use Rattle.std.specs.Option.{option_map}
use Rattle.tags.specs.Bare.{records}
use Rattle.reading.specs.Sizes.{size_of}
use Rattle.rules.specs.Lists.{within, is_there}
use Rattle.rules.specs.Reading.{File, present, files, size}
use Rattle.rules.specs.Refusals.{recs}
use Rattle.rules.proofs.Filed.{present-file, some_is, some-none}
use Rattle.names.specs.Names.{name_at, name_if}
use Rattle.flash.specs.Blocks.{standing}
use Rattle.flash.specs.Model.{State, blocks_of, view_of}
use Rattle.scan.specs.Indexes.{looks_in, names_in, Knows}
use Rattle.scan.specs.declared.indexes.Index.{Index}
use Rattle.scan.specs.declared.refusals.Refusal.{Refusal}
use Rattle.questions.specs.Lists.{narrowed, size_answer}
use Rattle.questions.proofs.Knowing.{narrow_size}
use Rattle.questions.specs.Questions.{asked, SizeAnswered}

-- which objects are files
pub present_if : (s : State) (o : ℕ) → present (standing (blocks_of s)) o ≡ is_there (files (standing (blocks_of s)) o)
present_if s o = present-file (standing (blocks_of s)) o

-- the name of a file
pub same_name : (s : State) (x : Index) (o : ℕ) → Knows (view_of s) x → within 257 511 o ≡ true → name_at (names_in x) o ≡ name_if (files (standing (blocks_of s)) o)
same_name s x o k w = let a = and_parts (leb 257 o) (leb o 511) w in k.named o (leb-true 257 o a.0) (leb-true o 511 a.1)

-- the size of a file
module _ (s : State) (o : ℕ) where
  size-by : (w : Bool) (m : Option File) (n : Option ℕ) → within 257 511 o ≡ w → files (recs (asked s)) o ≡ m → option_map narrowed n ≡ option_map size m → SizeAnswered (asked s) o (size_answer w n)
  size-by false m n w e q = grind (arith, common_steps)
  size-by true None None w e q = grind (arith, common_steps, present_if)
  size-by true None (Some n) w e q = absurd (some-none (narrowed n) q)
  size-by true (Some f) None w e q = absurd (some-none (size f) (sym q))
  size-by true (Some f) (Some n) w e q = (grind (arith, common_steps, present_if), (f, e, some_is (narrowed n) (size f) q))

  pub size_told : (x : Index) (r : Result ℕ Refusal) → Knows (view_of s) x → r ≡ size_answer (within 257 511 o) (size_of (records (looks_in x)) o) → SizeAnswered (asked s) o r
  size_told x r k e = subst (λ (y : Result ℕ Refusal). SizeAnswered (asked s) o y) (sym e) (size-by (within 257 511 o) (files (recs (asked s)) o) (size_of (records (looks_in x)) o) refl refl (narrow_size s x k o))
