use Rattle.names.specs.Names.{entries_of}
use Rattle.scan.proofs.RowChecking.{CheckedTo}
use Rattle.scan.proofs.tables.Scan.check_rows.Given as goal

abbrev pub invariant-loop-row : goal.invariant-loop-row
invariant-loop-row g l = CheckedTo (g.C.Chip.model l.self.chip.now) l.self.rows.now l.row (entries_of l.names)
