use Rattle.std.proofs.lemmas.Result.{err_from_is_err_and}
use Rattle.writing.proofs.Played.{erase-done}
use Rattle.writing.proofs.Refused.{not-erased}
use Rattle.writing.proofs.writes.erase.Goals as goal

pub returns-in_err-erase : goal.returns-in_err-erase
returns-in_err-erase g c = λ t h.
    let p = err_from_is_err_and c.from_residual.result c.from_residual.ensures.1 in
    rw (p.1, p.2) (not-erased _ _ c.args.index.now c.args.block _ t h c.in_err-erase.ensures)

pub returns : goal.returns
returns g c = λ t h. erase-done _ _ c.args.index.now c.note_erase.new.index c.args.block t c.in_ok-erase.ensures c.note_erase.ensures
