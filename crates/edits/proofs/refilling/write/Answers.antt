use Rattle.std.proofs.Common.{ap, ◌∙◌}
use Rattle.store.specs.Stored.{stored}
use Rattle.edits.proofs.Lending.{opened_now}
use Rattle.edits.proofs.Putting.{open_turned, never_refused, closes_after, written_so}
use Rattle.edits.proofs.refilling.write.Goals as goal

pub returns-in_err-ticket : goal.returns-in_err-ticket
returns-in_err-ticket g c = absurd (never_refused (stored c.args.store.now) _ c.args.object _ c.requires.free c.in_err-ticket.ensures)

pub refill-outcome-requires-clause-holds : goal.refill-outcome-requires-clause-holds
refill-outcome-requires-clause-holds g c = (open_turned (stored c.args.store.now) (stored c.open.new.self) c.args.object c.requires.holds c.requires.runs c.in_ok-ticket.ensures.1).holds

pub refill-outcome-requires-clause-runs : goal.refill-outcome-requires-clause-runs
refill-outcome-requires-clause-runs g c = (open_turned (stored c.args.store.now) (stored c.open.new.self) c.args.object c.requires.holds c.requires.runs c.in_ok-ticket.ensures.1).running

pub refill-outcome-requires-clause-lent : goal.refill-outcome-requires-clause-lent
refill-outcome-requires-clause-lent g c =
    ap (λ k. (stored c.open.new.self).opened k) c.in_ok-ticket.ensures.0 ∙ opened_now (stored c.args.store.now) (stored c.open.new.self) c.args.object c.in_ok-ticket.ensures.1

pub returns-in_err-close : goal.returns-in_err-close
returns-in_err-close g c =
    absurd (closes_after (stored c.args.store.now) (stored c.open.new.self) (stored c.refill-outcome.new.store) _ c.args.object c.in_ok-ticket.ticket.object c.args.content.now _ _ c.in_ok-ticket.ensures.0 c.in_ok-ticket.ensures.1 c.refill-outcome.ensures c.in_err-close.ensures)

pub returns : goal.returns
returns g c =
    written_so (stored c.args.store.now) (stored c.open.new.self) (stored c.refill-outcome.new.store) _ c.args.object c.in_ok-ticket.ticket.object c.args.content.now _ c.in_ok-ticket.ensures.0 c.requires.holds c.requires.runs c.in_ok-ticket.ensures.1 c.refill-outcome.ensures c.in_ok-close.ensures
