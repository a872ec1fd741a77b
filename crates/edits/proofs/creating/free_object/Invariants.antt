use Rattle.std.proofs.Common.{◌≡◌, ℕ, ◌≤◌, ◌<◌, true}
use Rattle.rules.specs.Lists.{is_there}
use Rattle.rules.specs.Reading.{files}
use Rattle.rules.specs.Refusals.{recs}
use Rattle.store.specs.Stored.{stored}
use Rattle.edits.proofs.creating.free_object.Given as goal

abbrev pub invariant-loop-object : goal.invariant-loop-object
invariant-loop-object l = (k : ℕ) → 257 ≤ k → k < l.object → is_there (files (recs (stored l.store)) k) ≡ true
