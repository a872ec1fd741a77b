use Rattle.std.proofs.Common.{◌∙◌, rules}
use borrow.Author.Tests.{tests}
use Rattle.std.proofs.lemmas.Iterator.Consumers.{YieldsList-at, YieldsList-from_filter, count_from_yields_List}
use Rattle.rules.specs.Calls.{objects}
use Rattle.rules.specs.Reading.{present}
use Rattle.tags.specs.Bare.{records}
use Rattle.questions.proofs.Listing.{objects_yielded, files_counted}
use Rattle.questions.proofs.lists.count_rows.Goals as goal

pub returns : goal.returns
returns c =
    count_from_yields_List _ _ c.count.ensures.ran
    (YieldsList-from_filter _ (present (records c.args.looks.now)) (YieldsList-at c.filter.ensures.source (objects_yielded c.new.result c.new.ensures.start c.new.ensures.end c.new.ensures.exhausted))
    c.filter.ensures.closure (λ y b q k. search (rules, tests)))
    ∙ files_counted (records c.args.looks.now) objects
