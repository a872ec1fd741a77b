use Rattle.std.proofs.Common.{refl, subst, sym, inr}
use Rattle.std.proofs.lemmas.Result.{err_from_is_err_and}
use Rattle.names.specs.Names.{Entries, Mirrors}
use Rattle.rules.specs.Reading.{files}
use Rattle.rules.specs.Refusals.{recs}
use Rattle.store.specs.Stored.{stored}
use Rattle.store.proofs.Adding.{same_names, step_done, stands_still, present_still, knows_still, broken_off}
use Rattle.store.proofs.Asked.{ready}
use Rattle.store.proofs.stores.Store.change.Goals as goal

pub returns-in_err-counts : goal.returns-in_err-counts
returns-in_err-counts g c =
    let old = c.args.self.now in
    let z = ready old.known old.stands old.present c.args.change.now _ c.in_ok-check.ensures c.draft-record.ensures in
    let b = c.in_err-counts.ensures in
    let p = err_from_is_err_and c.from_residual-in_err-counts.result c.from_residual-in_err-counts.ensures.1 in
    rw (p.1, p.2, b.played.1, b.stopped.0, b.stopped.1) (inr (broken_off z b.played.0 _ _ b.played.2))

pub invariant_of-self-2 : goal.invariant_of-self-2
invariant_of-self-2 g c =
    let old = c.args.self.now in
    let z = ready old.known old.stands old.present c.args.change.now _ c.in_ok-check.ensures c.draft-record.ensures in
    let h = c.in_ok-counts.ensures in
    let names = subst (λ (es : Entries). Mirrors es (files (recs (stored old)))) (sym (same_names z _ _ _ h.played)) z.knows.named in
    record {
      known = λ q. knows_still z _ _ _ h.played _ (record { sizes = refl; rows = refl; stands = refl }) (c.follow.ensures (stored old) c.in_ok-check.ensures names);
      stands = λ q. stands_still z _ _ _ h.played;
      present = λ q. rw (h.stopped.1) (present_still z _ _ _ h.played);
    }

pub returns : goal.returns
returns g c =
    let old = c.args.self.now in
    let z = ready old.known old.stands old.present c.args.change.now _ c.in_ok-check.ensures c.draft-record.ensures in
    let h = c.in_ok-counts.ensures in
    rw (h.stopped.1) (step_done z _ _ _ h.played)
