-- The serial of the next record. Assumes nothing.
use Rattle.std.proofs.Common.{◌≡◌, ℕ, ◌+◌, min, false, ◌∙◌, arith}
use Rattle.std.proofs.lemmas.Bool.Decides.{nat_tests}
use Rattle.flash.specs.Blocks.{standing}
use Rattle.flash.specs.Model.{State, blocks_of, view_of}
use Rattle.rules.specs.Calls.{next}
use Rattle.rules.specs.Lists.{largest}
use Rattle.rules.specs.Refusals.{no_serial}
use Rattle.tags.specs.Bare.{records}
use Rattle.scan.specs.declared.indexes.Index.{Index}
use Rattle.scan.specs.Indexes.{looks_in, Knows}
use Rattle.questions.proofs.Counting.{serial_known}

pub next_told : (s : State) (x : Index) (h : ℕ) → Knows (view_of s) x → no_serial (standing (blocks_of s)) ≡ false → h ≡ largest (λ r. r.tag.serial) (records (looks_in x))
    → min (h + 1) 4294967295 ≡ next (standing (blocks_of s))
next_told s x h k n e = (let l = e ∙ serial_known s x k in grind (arith, nat_tests))
