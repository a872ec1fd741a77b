use Rattle.std.proofs.Common.{◌≡◌, ◌+◌, ◌<◌, length, refl, sym, ◌∙◌, subst, rules, arith}
use Rattle.std.proofs.lemmas.Result.{err_from_is_err_and}
use Rattle.cleaning.specs.declared.adds.Counts.{Counts}
use Rattle.rules.specs.Calls.{put}
use Rattle.store.specs.Stored.{stored}
use Rattle.edits.specs.Writing.{Filled}
use Rattle.edits.proofs.Turning.{counts_zero, costs_few}
use Rattle.edits.proofs.Filling.{fill_none, fill_more, fill_not, fill_all, fill_room, some_left, chunk_is, rest_is, sum_small}
use Rattle.edits.proofs.refilling.fill.Goals as goal

pub loop-rest-init : goal.loop-rest-init
loop-rest-init g c =
    let s = stored c.args.store.now in
    record {
      filled = subst (λ (k : Counts). Filled s c.args.ticket.now.object c.args.content.now 0 k s)
          (sym (counts_zero c.default-counts.result c.default-counts.ensures.0 c.default-counts.ensures.1))
          (fill_none s c.args.ticket.now.object c.args.content.now c.requires.holds c.requires.runs);
      left = refl;
      room = omega arith;
    }

pub returns-in_err-put : goal.returns-in_err-put
returns-in_err-put g c =
    let i = c.loop-rest.invariant in
    let some : 0 < length c.loop-rest.rest.now = some_left (length c.loop-rest.rest.now) c.loop-rest-test.ensures in
    let p = err_from_is_err_and c.from_residual.result c.from_residual.ensures.1 in
    rw (p.1, p.2) (
    fill_not (stored c.args.store.now) (stored c.loop-rest.store) (stored c.put.new.self) c.args.ticket.now.object c.args.content.now c.loop-rest.rest.now c.split_at.result.0.now c.loop-rest.number c.loop-rest.counts _
    i.filled c.requires.lent i.left some (omega (arith, c.split_at.ensures.front_len, c.min.ensures, some)) (omega (arith, c.split_at.ensures.front_len, c.min.ensures)) c.in_err-put.ensures
    )

pub both-counts-requires-clause-programs : goal.both-counts-requires-clause-programs
both-counts-requires-clause-programs g c =
    let f = c.loop-rest.invariant.filled in
    let x = c.in_ok-put.field-0 in
    let k = costs_few (stored c.loop-rest.store) (stored c.put.new.self) (put c.args.ticket.now.object (c.loop-rest.number + 1) c.split_at.result.0.now) x.programs x.erases f.turned.holds c.in_ok-put.ensures in
    let few = f.few in
    let p = f.turned.same_p in
    sum_small (stored c.args.store.now) c.loop-rest.number c.loop-rest.counts.programs x.programs c.requires.holds (omega (arith, few)) f.most (omega (arith, k, p))

pub both-counts-requires-clause-erases : goal.both-counts-requires-clause-erases
both-counts-requires-clause-erases g c =
    let f = c.loop-rest.invariant.filled in
    let x = c.in_ok-put.field-0 in
    let k = costs_few (stored c.loop-rest.store) (stored c.put.new.self) (put c.args.ticket.now.object (c.loop-rest.number + 1) c.split_at.result.0.now) x.programs x.erases f.turned.holds c.in_ok-put.ensures in
    let few = f.few in
    let e = f.erases in
    omega (arith, k, few, e)

pub loop-rest-preserved : goal.loop-rest-preserved
loop-rest-preserved g c =
    let s = stored c.args.store.now in
    let i = c.loop-rest.invariant in
    let n = c.loop-rest.number in
    let some = some_left (length c.loop-rest.rest.now) c.loop-rest-test.ensures in
    record {
      filled = subst (λ (k : Counts). Filled s c.args.ticket.now.object c.args.content.now (n + 1) k (stored c.put.new.self)) (sym c.both-counts.ensures)
          (fill_more s (stored c.loop-rest.store) (stored c.put.new.self) c.args.ticket.now.object c.args.content.now c.split_at.result.0.now n c.loop-rest.counts c.in_ok-put.field-0 i.filled
          (c.split_at.ensures.front ∙ chunk_is c.args.content.now c.loop-rest.rest.now n c.min.result i.left c.min.ensures) c.in_ok-put.ensures);
      left = c.split_at.ensures.back ∙ rest_is c.args.content.now c.loop-rest.rest.now n c.min.result i.left c.min.ensures some;
      room = fill_room c.args.content.now c.loop-rest.rest.now n i.left some;
    }

pub returns : goal.returns
returns g c =
    let i = c.loop-rest.invariant in
    let none : length c.loop-rest.rest.now ≡ 0 = search rules in
    (i.filled, fill_all c.args.content.now c.loop-rest.rest.now c.loop-rest.number i.left none i.room)
