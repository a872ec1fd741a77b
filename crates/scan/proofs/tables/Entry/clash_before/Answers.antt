use Rattle.std.proofs.Common.{◌<◌, ◌≤◌, sym, ◌∙◌, arith, length-take}
use Rattle.flash.specs.declared.chunks.Look.{Look}
use Rattle.scan.proofs.Telling.{row_inside}
use Rattle.scan.proofs.Clashing.{clash-found, clash-nowhere}
use Rattle.scan.proofs.tables.Entry.clash_before.Goals as goal

pub returns-then-branch : goal.returns-then-branch
returns-then-branch g c =
    let e = c.args.self.now in
    let q = c.in-Some.ensures in
    let l : c.loop-row.row < e.row = omega (arith, length-take {A = Look}) in
    clash-found (g.C.Chip.model e.scan.now.chip.now) e.row (row_inside e.scan.now.table e.row e.there) c.loop-row.row l (rw (q.0, q.1) at (sym c.if-branch.true ∙ c.in_ok-clashes_with.ensures))

pub returns : goal.returns
returns g c =
    let e = c.args.self.now in
    let l : e.row ≤ c.loop-row.row = omega (arith, e.there, length-take {A = Look}) in
    clash-nowhere (g.C.Chip.model e.scan.now.chip.now) e.row (row_inside e.scan.now.table e.row e.there) (λ i h. c.loop-row.invariant i (omega arith))
