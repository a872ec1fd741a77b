use Rattle.store.specs.Stored.{stored}
use Rattle.edits.proofs.Trimming.{trim_cut, trim_err}
use Rattle.edits.proofs.refilling.trim.Goals as goal

pub returns-in-Ok : goal.returns-in-Ok
returns-in-Ok c =
    let r = c.requires in
    trim_cut (stored c.args.store.now) (stored c.cut.new.self) c.args.ticket.now.object c.args.length r.holds r.runs r.lent r.few _ c.in-Ok.ensures

pub returns-in-Err : goal.returns-in-Err
returns-in-Err c =
    let r = c.requires in
    trim_err (stored c.args.store.now) (stored c.cut.new.self) c.args.ticket.now.object c.args.length r.holds r.runs r.lent r.few _ _ c.in-Err.ensures c.spared.ensures
