use Rattle.std.proofs.Common.{◌≡◌, ℕ, ◌<◌, false}
use Rattle.scan.specs.Clashes.{clashing}
use Rattle.scan.specs.Tables.{row_of}
use Rattle.scan.proofs.tables.Entry.clash_before.Given as goal

abbrev pub invariant-loop-row : goal.invariant-loop-row
invariant-loop-row g l =
    let s = g.C.Chip.model l.self.scan.now.chip.now in
    (k : ℕ) → k < l.row → clashing (row_of s l.self.row) (row_of s k) ≡ false
