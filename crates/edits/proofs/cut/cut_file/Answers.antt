use Rattle.store.specs.Stored.{stored}
use Rattle.edits.proofs.Lending.{closes_again, lent_so}
use Rattle.edits.proofs.cut.cut_file.Goals as goal

pub returns-in_err-close : goal.returns-in_err-close
returns-in_err-close c =
    absurd (closes_again (stored c.args.store.now) (stored c.open.new.self) (stored c.cut-outcome.new.self) _ c.args.object c.in_ok-ticket.ticket.object c.args.length _ _ c.in_ok-ticket.ensures.0 c.in_ok-ticket.ensures.1 c.cut-outcome.ensures c.in_err-close.ensures)

pub returns : goal.returns
returns c =
    lent_so (stored c.args.store.now) (stored c.open.new.self) (stored c.cut-outcome.new.self) _ c.args.object c.in_ok-ticket.ticket.object c.args.length _ c.in_ok-ticket.ensures.0 c.in_ok-ticket.ensures.1 c.cut-outcome.ensures c.in_ok-close.ensures
