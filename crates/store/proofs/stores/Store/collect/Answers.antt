use Rattle.std.proofs.Common.{inr}
use Rattle.std.proofs.lemmas.Result.{err_from_is_err_and}
use Rattle.store.proofs.Collects.{cleanable, never_none, collect_done, collect_knows, collect_stands, collect_present, collect_broken}
use Rattle.store.proofs.stores.Store.collect.Goals as goal

pub returns-in_err-clean : goal.returns-in_err-clean
returns-in_err-clean g c =
    let old = c.args.self.now in
    let b = c.in_err-clean.ensures in
    let p = err_from_is_err_and c.from_residual-in_err-clean.result c.from_residual-in_err-clean.ensures.1 in
    rw (p.1, p.2, b.played.1, b.stopped.0, b.stopped.1) (inr (collect_broken (cleanable old.known old.stands old.present c.in_ok-check_collect.ensures) b.played.0 _ _ b.played.2))

pub returns-in_err-victim : goal.returns-in_err-victim
returns-in_err-victim g c =
    let old = c.args.self.now in
    absurd (never_none (cleanable old.known old.stands old.present c.in_ok-check_collect.ensures) _ _ (rw c.in_err-victim.ensures.ok_part at c.in_ok-clean.ensures.played))

pub invariant_of-self : goal.invariant_of-self
invariant_of-self g c =
    let old = c.args.self.now in
    let a = cleanable old.known old.stands old.present c.in_ok-check_collect.ensures in
    let h = rw c.in_ok-victim.ensures.ok_part at c.in_ok-clean.ensures.played in
    record {
      known = λ q. collect_knows a _ _ _ h;
      stands = λ q. collect_stands a _ _ _ h;
      present = λ q. rw (c.in_ok-clean.ensures.stopped.1) (collect_present a _ _ _ h);
    }

pub returns : goal.returns
returns g c =
    let old = c.args.self.now in
    rw (c.in_ok-clean.ensures.stopped.1)
    (collect_done (cleanable old.known old.stands old.present c.in_ok-check_collect.ensures) _ _ _ (rw c.in_ok-victim.ensures.ok_part at c.in_ok-clean.ensures.played))
