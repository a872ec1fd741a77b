use Rattle.std.proofs.Common.{◌≡◌, ◌++◌, string_bytes}
use Rattle.lines.specs.Chunks.{chip_lines}
use Rattle.lines.proofs.chunks.chip_lines.Given as goal

abbrev pub invariant-loop-block : goal.invariant-loop-block
invariant-loop-block g l = string_bytes l.out ≡ string_bytes l.initial.out ++ chip_lines (g.C.Chip.model l.chip) l.block
