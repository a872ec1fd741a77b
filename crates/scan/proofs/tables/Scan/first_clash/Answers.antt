use Rattle.std.proofs.Common.{◌≡◌, false, sym, ◌∙◌, arith, rules}
use Rattle.scan.specs.Clashes.{clashes_to}
use Rattle.scan.proofs.Telling.{rows_long, recorded, recordless}
use Rattle.scan.proofs.Clashing.{none-clash, first-clash-none, first-clash-some}
use Rattle.scan.proofs.tables.Scan.first_clash.Goals as goal

pub loop-row-preserved-in_default : goal.loop-row-preserved-in_default
loop-row-preserved-in_default g c =
    let s = g.C.Chip.model c.args.self.now.chip.now in
    let i = c.loop-row.row in
    let n : clashes_to s i i ≡ false = none-clash _ (recordless s i c.in_default.ensures) _ in
    search rules

pub returns-then-branch : goal.returns-then-branch
returns-then-branch g c =
    let x = c.in-Some.entry in
    let q = c.in-Some.ensures in
    let r = recorded x.told in
    let p = c.place.ensures in
    let e = first-clash-some (g.C.Chip.model x.scan.now.chip.now) x.row r.found r.here (sym c.if-branch.true ∙ c.in_ok-clash_before.ensures) (rw (q.0, q.1) c.loop-row.invariant) in
    cc

pub returns : goal.returns
returns g c =
    let s = g.C.Chip.model c.args.self.now.chip.now in
    first-clash-none s (λ k h. c.loop-row.invariant k (omega (arith, rows_long s _ _ c.args.self.now.table)))
