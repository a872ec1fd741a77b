use Rattle.std.proofs.Common.{◌∙◌, arith}
use Rattle.scan.proofs.Looking.{scanned-more, scanned-all}
use Rattle.scan.proofs.scans.scan_rows.Goals as goal

pub loop-row-preserved : goal.loop-row-preserved
loop-row-preserved g c =
    let p = c.requires.sizes.chunks in
    scanned-more (g.C.Chip.model c.args.chip.now) c.place_of.result c.in_ok-look.field-0 c.loop-row.row c.loop-row.rows (omega arith)
    (rw p at c.place_of.ensures.block) (rw p at c.place_of.ensures.chunk) c.in_ok-look.ensures c.loop-row.invariant

pub returns : goal.returns
returns g c =
    let l = rw (c.requires.sizes.blocks, c.requires.sizes.chunks) at c.requires.rows in
    scanned-all (g.C.Chip.model c.args.chip.now) c.loop-row.row c.loop-row.rows (c.loop-row.auto.rows ∙ l) (omega arith) c.loop-row.invariant
