use Rattle.std.proofs.Common.{◌≡◌, ◌++◌, string_bytes}
use Rattle.lines.specs.Chunks.{block_lines}
use Rattle.lines.proofs.chunks.block_lines.Given as goal

abbrev pub invariant-loop-chunk : goal.invariant-loop-chunk
invariant-loop-chunk g l = string_bytes l.out ≡ string_bytes l.initial.out ++ block_lines (g.C.Chip.model l.chip) l.block l.chunk
