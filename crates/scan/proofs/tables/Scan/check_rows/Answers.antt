use Rattle.names.specs.Names.{entries_of}
use Rattle.scan.proofs.RowChecking.{row-passed, checked-more, checked-all}
use Rattle.scan.proofs.tables.Scan.check_rows.Goals as goal

pub loop-row-preserved-in_default : goal.loop-row-preserved-in_default
loop-row-preserved-in_default g c =
    let i = c.loop-row.row in
    let names = entries_of c.loop-row.names in
    checked-more c.args.self.now.table i names names c.loop-row-test.true c.loop-row.invariant (row-passed _ c.args.self.now.rows.now i names c.in_default.ensures)

pub returns : goal.returns
returns g c = checked-all c.args.self.now.table c.loop-row.row (entries_of c.loop-row.names) c.loop-row-test.false c.loop-row.invariant
