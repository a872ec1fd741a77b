use Rattle.std.proofs.Common.{◌≡◌, ℕ, ◌<◌}
use Rattle.flash.specs.declared.chunks.Chunk.TheVariants.{Blank}
use Rattle.scan.proofs.formats.is_blank.Given as goal

abbrev pub invariant-loop-chunk : goal.invariant-loop-chunk
invariant-loop-chunk g l = (c : ℕ) → c < l.chunk → (g.C.Chip.model l.chip).cells l.block c ≡ Blank
