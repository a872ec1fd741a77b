use Rattle.std.proofs.Common.{sym, ◌∙◌, arith}
use Rattle.std.proofs.lemmas.Bool.{not-false}
use Rattle.std.proofs.lemmas.Grind.{common_steps}
use Rattle.checks.proofs.Room.{on_put}
use Rattle.checks.proofs.changes.put.Goals as goal

pub returns : goal.returns
returns c = λ st bytes k o l there.
    let a = c.args in
    let number = sym c.is_number.ensures ∙ not-false c.is_number.result c.in_ok-refuse_if.ensures in
    let present = there (not-false a.open c.in_ok-refuse_if-3.ensures) in
    grind (arith, common_steps, on_put st a.object a.number bytes k.knows.accepted number present)
