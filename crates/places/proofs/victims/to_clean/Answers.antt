use Rattle.std.proofs.Common.{ℕ, ap, ◌∙◌, rules}
use borrow.Author.Tests.{tests}
use Rattle.std.proofs.lemmas.Iterator.{YieldsList-from_slice, YieldsList-from_map}
use Rattle.std.proofs.lemmas.Iterator.Consumers.{YieldsList-at, YieldsList-from_filter, YieldsList-from_enumerate}
use Rattle.rules.specs.declared.standings.Standing.{Standing}
use Rattle.rules.specs.Places.{load, least, to_clean}
use Rattle.places.specs.Places.{blocks_in, victim_told, is_closed_s, with_load}
use Rattle.places.proofs.Cutting.{loads_known}
use Rattle.places.proofs.Lightest.{least_is, closed_with_loads, lightest}
use Rattle.places.proofs.victims.to_clean.Goals as goal

pub returns : goal.returns
unfolding to_clean
returns c = λ f t.
    let x = c.args.index.now in
    let st = c.stands.result.now in
    let picked = least_is _ _ (λ v k q e. search (rules, tests)) c.map.result c.min_by_key.result (closed_with_loads (load (blocks_in x)) 0 st) c.min_by_key.ensures.ran
    (YieldsList-from_map _ (λ (q : ℕ × Standing). with_load (load (blocks_in x)) q.0)
    (YieldsList-at c.map.ensures.source (YieldsList-from_filter _ (λ (q : ℕ × Standing). is_closed_s q.1)
    (YieldsList-at c.filter.ensures.source (YieldsList-from_enumerate (YieldsList-at c.enumerate.ensures.source (YieldsList-from_slice st (cc))) (cc)))
    c.filter.ensures.closure (λ y b q k. search (rules, tests))))
    c.map.ensures.closure (λ y r q k. search rules)) in
    ap victim_told picked ∙ lightest (load (blocks_in x)) 0 st ∙ ap (λ (F : ℕ → ℕ). least F 0 st) (loads_known f x t) ∙ ap (least (load f.blocks) 0) (c.stands.ensures.value ∙ t.stands)
