use Rattle.scan.specs.Scans.{ScannedTo}
use Rattle.scan.proofs.scans.scan_rows.Given as goal

abbrev pub invariant-loop-row : goal.invariant-loop-row
invariant-loop-row g l = ScannedTo (g.C.Chip.model l.chip) l.row l.rows
