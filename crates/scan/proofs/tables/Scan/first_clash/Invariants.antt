use Rattle.std.proofs.Common.{◌≡◌, ℕ, ◌<◌, false}
use Rattle.scan.specs.Clashes.{clashes_to}
use Rattle.scan.proofs.tables.Scan.first_clash.Given as goal

abbrev pub invariant-loop-row : goal.invariant-loop-row
invariant-loop-row g l = (k : ℕ) → k < l.row → clashes_to (g.C.Chip.model l.self.chip.now) k k ≡ false
