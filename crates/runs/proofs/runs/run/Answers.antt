use Rattle.std.proofs.Common.{min, length, vec_items, refl, sym, ap, ◌∙◌}
use Rattle.std.proofs.lemmas.List.{length-map}
use Rattle.store.specs.Making.{call_told}
use Rattle.store.proofs.Running.{shaped}
use Rattle.runs.specs.Runs.{Tells}
use Rattle.runs.proofs.Steps.{just_begun, all_made, beyond_stay, one_call, at_under}
use Rattle.runs.proofs.runs.run.Goals as goal

pub loop-at-init : goal.loop-at-init
loop-at-init g c =
    let e = c.in_ok-mount.ensures in
    let old = c.args.store.now in
    let new = c.mount.new.self in
    record {
      so_far = just_begun Tells (g.C.Chip.model c.args.store.now.chip) (g.C.Chip.model new.chip) old.running _ old.held _ (vec_items old.index.standings) _ e.chip (shaped (g.C.Chip.model new.chip) (new.known e.runs.0).whole) (sym e.answers) e.runs.0 e.runs.1 (e.stands refl);
      beyond = refl;
    }

pub loop-at-preserved : goal.loop-at-preserved
loop-at-preserved g c =
    let i = c.loop-at.invariant in
    record {
      so_far = one_call call_told _ c.args.calls.now c.loop-at.answers c.loop-at.at c.min-count.result _ i.so_far c.call-item.result c.call-item.is c.loop-at-test.true (c.min-count.ensures ∙ ap (min (length c.args.calls.now)) (sym c.loop-at.auto.answers)) c.make.result _ c.make.ensures;
      beyond = beyond_stay c.loop-at.answers c.loop-at.at c.min-count.result c.make.result (at_under call_told _ c.args.calls.now c.loop-at.answers c.loop-at.at c.min-count.result _ i.so_far c.call-item.result c.call-item.is c.loop-at-test.true (c.min-count.ensures ∙ ap (min (length c.args.calls.now)) (sym c.loop-at.auto.answers))) ∙ i.beyond;
    }

pub returns : goal.returns
returns g c =
    let i = c.loop-at.invariant in (
      sym c.in_ok-mount.ensures.answers,
      c.min-count.ensures ∙ ap (λ n. min n (length c.args.answers.now)) (sym (length-map c.args.calls.now call_told)),
      i.beyond,
      all_made call_told _ c.args.calls.now c.loop-at.answers _ c.loop-at.at c.min-count.result _ i.so_far c.min-count.ensures c.loop-at.auto.at-end c.loop-at-test.false,
    )
