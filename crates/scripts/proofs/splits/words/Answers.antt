-- The words are what is left of the parts.
use Rattle.std.proofs.Common.{not, length, eqb, rules}
use borrow.Author.Tests.{tests}
use Rattle.std.proofs.lemmas.Iterator.Consumers.{map_from_collect, YieldsList-from_filter}
use Rattle.std.proofs.lemmas.Iterator.Splits.{YieldsList-from_slice_split}
use Rattle.scripts.specs.Splits.{is_blank}
use Rattle.scripts.proofs.splits.words.Goals as goal

pub returns : goal.returns
returns c =
    rw (← c.as_bytes.ensures.value) (rw (← c.before_comment.ensures)
    (map_from_collect _ c.collect.ensures.ran
    (YieldsList-from_filter _ (λ w. not (eqb (length w) 0))
    (YieldsList-from_slice_split _ is_blank c.before_comment.result.now (cc) (cc) (cc) (λ x b q k. search (rules, tests)))
    c.filter.ensures.closure (λ x b q k. search (rules, tests)))))
