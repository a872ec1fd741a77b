-- What stands before the first #.
use Rattle.std.proofs.Common.{◌≡◌, eqb, rules, sym, ◌∙◌}
use borrow.Author.Tests.{tests}
use Rattle.std.specs.List.{position}
use Rattle.std.proofs.lemmas.Iterator.{YieldsList-from_slice}
use Rattle.std.proofs.lemmas.Iterator.Search.{position_from_yields_List}
use Rattle.scripts.proofs.Comments.{taken_before, all_before}
use Rattle.scripts.proofs.splits.before_comment.Goals as goal

pub returns-in-Some : goal.returns-in-Some
returns-in-Some c =
    let told : c.position.result ≡ position (λ x. eqb x 35) c.args.line.now = position_from_yields_List (λ x. eqb x 35) _ _ c.position.result c.position.ensures.ran (YieldsList-from_slice c.args.line.now cc) (λ x b q k. search (rules, tests)) in
    taken_before (λ x. eqb x 35) c.args.line.now _ (sym c.in-Some.is ∙ told)

pub returns-in-None : goal.returns-in-None
returns-in-None c =
    let told : c.position.result ≡ position (λ x. eqb x 35) c.args.line.now = position_from_yields_List (λ x. eqb x 35) _ _ c.position.result c.position.ensures.ran (YieldsList-from_slice c.args.line.now cc) (λ x b q k. search (rules, tests)) in
    all_before (λ x. eqb x 35) c.args.line.now (sym c.in-None.is ∙ told)
