use Rattle.std.proofs.Common.{◌≡◌, ℕ, Bool, ap, ◌∙◌, sym, subst, inr, arith}
use Rattle.std.proofs.lemmas.Result.{err_from_is_err_and}
use Rattle.cleaning.specs.declared.adds.Counts.{Counts}
use Rattle.store.specs.Stored.{stored}
use Rattle.edits.specs.Writing.{Written}
use Rattle.edits.proofs.Filling.{refilled, sum_small}
use Rattle.edits.proofs.refilling.refill.Goals as goal

pub trim-requires : goal.trim-requires
trim-requires g c =
    let f = c.in_ok-length.ensures.0 in
    record {
      holds = f.turned.holds;
      runs = f.turned.running;
      lent = ap (λ (os : ℕ → Bool). os c.args.ticket.now.object) f.opened' ∙ c.requires.lent;
      few = f.few;
    }

pub returns-in_err-length : goal.returns-in_err-length
returns-in_err-length g c =
    let p = err_from_is_err_and c.from_residual.result c.from_residual.ensures.1 in
    rw (p.1, p.2) c.in_err-length.ensures

pub returns-in_err-trimmed : goal.returns-in_err-trimmed
returns-in_err-trimmed g c =
    let f = c.in_ok-length.ensures.0 in
    let p = err_from_is_err_and c.from_residual-in_err-trimmed.result c.from_residual-in_err-trimmed.ensures.1 in
    rw (p.1, p.2) (inr (inr c.in_err-trimmed.ensures.0), c.in_err-trimmed.ensures.1 ∙ f.opened')

pub returns : goal.returns
returns g c =
    let s = stored c.args.store.now in
    let f = c.in_ok-length.ensures in
    subst (λ (k : Counts). Written s c.args.ticket.now.object c.args.content.now k (stored c.trim.new.store) × ((stored c.trim.new.store).opened ≡ s.opened)) (sym c.both.ensures)
    (refilled s (stored c.fill.new.store) (stored c.trim.new.store) c.args.ticket.now.object c.args.content.now c.in_ok-length.length c.in_ok-length.filled c.in_ok-trimmed.trimmed f.0 f.1 c.in_ok-trimmed.ensures)

pub both-requires-clause-programs : goal.both-requires-clause-programs
both-requires-clause-programs g c =
    let f = c.in_ok-length.ensures.0 in
    let few = f.few in
    let p = f.turned.same_p in
    let x = c.in_ok-trimmed.ensures.2 in
    sum_small (stored c.args.store.now) c.in_ok-length.length c.in_ok-length.filled.programs c.in_ok-trimmed.trimmed.programs c.requires.holds (omega (arith, few)) f.most (omega (arith, x, p))
