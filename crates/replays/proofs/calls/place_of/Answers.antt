-- Where the first ticket of the object is.
use Rattle.std.proofs.Common.{rules}
use borrow.Author.Tests.{tests}
use Rattle.std.proofs.lemmas.Iterator.{YieldsList-from_slice}
use Rattle.std.proofs.lemmas.Iterator.Search.{position_from_yields_List}
use Rattle.replays.proofs.Tickets.{is_of, placed}
use Rattle.replays.proofs.calls.place_of.Goals as goal

pub returns : goal.returns
returns c =
    placed c.args.tickets.now c.args.object c.position.result
    (position_from_yields_List (is_of c.args.object) _ _ c.position.result c.position.ensures.ran (YieldsList-from_slice c.args.tickets.now cc) (λ x b q k. search (rules, tests)))
