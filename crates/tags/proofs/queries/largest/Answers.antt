use Rattle.std.proofs.Common.{◌≡◌, sym, ◌∙◌, rules, tests, of_calls}
use Rattle.std.proofs.lemmas.Fn.{serves_by}
use Rattle.std.proofs.lemmas.Iterator.{YieldsList-from_slice, YieldsList-from_map}
use Rattle.std.proofs.lemmas.Iterator.Consumers.{YieldsList-from_filter_map, reduce_from_yields_List}
use Rattle.std.proofs.lemmas.List.Folds.{max_of_map}
use Rattle.std.specs.List.{filter_map}
use Rattle.flash.specs.Chunks.{tag_in}
use Rattle.tags.specs.Bare.{bare_tag}
use Rattle.tags.proofs.Scans.{largest-tags}
use Rattle.tags.proofs.queries.largest.Goals as goal

-- each call leaves the closure as it was
pub max-requires-clause-can : goal.max-requires-clause-can
max-requires-clause-can g c = (
  search rules,
  serves_by _ (λ _ q. q ≡ c.args.number) (λ xs q x v k e. g.met.F.Fn.1.step_stays _ _ _ _ e.1 ∙ k) _ _ _ _ c.map.ensures.closure (λ xs t q x u y k e. rw e (search of_calls)),
)

pub returns : goal.returns
returns g c = λ f acts.
    let looks = c.args.looks.now in
    rw c.unwrap_or.ensures
    (rw
    (reduce_from_yields_List _ c.map.result _ c.max.ensures.ran
    (YieldsList-from_map _ (λ t. f (bare_tag t))
    (YieldsList-from_filter_map _ tag_in (YieldsList-from_slice looks cc) c.filter_map-tags.ensures.closure (λ x r q k. search (rules, tests)))
    c.map.ensures.closure (λ x b q k. search (of_calls, acts))))
    (max_of_map (λ t. f (bare_tag t)) (filter_map tag_in looks) ∙ sym (largest-tags f looks)))
