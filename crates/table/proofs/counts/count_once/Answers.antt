use Rattle.std.proofs.Common.{◌∙◌, of_calls}
use Rattle.std.proofs.lemmas.Iterator.{YieldsList-from_slice}
use Rattle.std.proofs.lemmas.Iterator.Consumers.{YieldsList-from_enumerate, YieldsList-from_filter, count_from_yields_List}
use Rattle.table.proofs.Onces.{first_at, firsts-count}
use Rattle.table.proofs.counts.count_once.Goals as goal

pub returns : goal.returns
returns g c = λ p acts.
    count_from_yields_List c.filter.result c.count.result c.count.ensures.ran
    (YieldsList-from_filter _ (first_at p c.args.looks.now) (YieldsList-from_enumerate (YieldsList-from_slice c.args.looks.now cc) (cc)) c.filter.ensures.closure (λ x b q k. search (of_calls, acts)))
    ∙ firsts-count p c.args.looks.now
