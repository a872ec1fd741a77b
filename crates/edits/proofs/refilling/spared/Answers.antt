use Rattle.std.proofs.Common.{refl, ap}
use Rattle.scan.specs.declared.refusals.Refusal.{Refusal}
use Rattle.scan.specs.Refusals.{told}
use Rattle.edits.proofs.Trimming.{is_25}
use Rattle.edits.proofs.Turning.{counts_zero}
use Rattle.edits.proofs.refilling.spared.Goals as goal

pub returns-in-NotShorter : goal.returns-in-NotShorter
returns-in-NotShorter c = (ap (λ (e : Refusal). (told e).0) c.in-NotShorter.is, counts_zero c.default.result c.default.ensures.0 c.default.ensures.1)

pub returns-in_default : goal.returns-in_default
returns-in_default c = (λ q. c.in_default.not-NotShorter (is_25 _ q), refl)
