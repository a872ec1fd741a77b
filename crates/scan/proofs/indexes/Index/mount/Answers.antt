use Rattle.std.proofs.Common.{◌∙◌}
use Rattle.std.proofs.lemmas.Result.{err_from_is_err_and}
use Rattle.scan.proofs.Accepting.{verdict-started}
use Rattle.scan.proofs.indexes.Index.mount.Goals as goal

pub returns-in_err-examine-clause-answers : goal.returns-in_err-examine-clause-answers
returns-in_err-examine-clause-answers g c =
    let p = err_from_is_err_and c.from_residual-in_err-examine.result c.from_residual-in_err-examine.ensures.1 in
    rw (p.1, p.2) (c.in_err-examine.ensures.answers ∙ verdict-started (g.C.Chip.model c.args.chip.now) _ c.in_ok-sizes.ensures.chip)

pub returns-clause-answers : goal.returns-clause-answers
returns-clause-answers g c = c.in_ok-examine.ensures.answers ∙ verdict-started (g.C.Chip.model c.args.chip.now) _ c.in_ok-sizes.ensures.chip
