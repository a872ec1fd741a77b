use Rattle.std.proofs.Common.{sym, ◌∙◌, rules, tests}
use Rattle.std.proofs.lemmas.Iterator.{YieldsList-from_slice}
use Rattle.std.proofs.lemmas.Iterator.Consumers.{YieldsList-from_filter_map}
use Rattle.std.proofs.lemmas.Iterator.Search.{any_from_yields_List}
use Rattle.flash.specs.Chunks.{tag_in}
use Rattle.tags.specs.Bare.{bare_tag}
use Rattle.tags.proofs.Scans.{any-tags}
use Rattle.tags.proofs.queries.any.Goals as goal

pub returns : goal.returns
returns g c = λ p acts.
    any_from_yields_List (λ t. p (bare_tag t)) _ _ _ c.any.ensures.ran
    (YieldsList-from_filter_map _ tag_in (YieldsList-from_slice c.args.looks.now cc) c.filter_map.ensures.closure (λ x r q k. search (rules, tests)))
    acts
    ∙ sym (any-tags p c.args.looks.now)
