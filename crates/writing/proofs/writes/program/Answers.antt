use Rattle.std.proofs.lemmas.Result.{err_from_is_err_and}
use Rattle.writing.proofs.Played.{program-done}
use Rattle.writing.proofs.Refused.{not-programmed}
use Rattle.writing.proofs.writes.program.Goals as goal

pub returns-in_err-program : goal.returns-in_err-program
returns-in_err-program g c = λ t k n.
    let p = err_from_is_err_and c.from_residual.result c.from_residual.ensures.1 in
    rw (p.1, p.2) (not-programmed _ _ c.args.index.now c.args.purpose c.args.at c.args.record.now _ t k c.in_err-program.ensures)

pub returns : goal.returns
returns g c = λ t k n. program-done _ _ c.args.index.now c.note_program.new.index c.args.purpose c.args.at c.args.record.now t n c.in_ok-program.ensures c.note_program.ensures
