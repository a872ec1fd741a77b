use Rattle.flash.specs.declared.chunks.Chunk.TheVariants.{Blank}
use Rattle.bench.specs.Acts.{left_in}
use Rattle.bench.proofs.Remaking.{Begun}
use Rattle.bench.proofs.benches.BenchChip.remake.Given as goal

abbrev pub invariant-loop-c : goal.invariant-loop-c
invariant-loop-c l = Begun (λ c x. left_in l.fn.self c x Blank) l.c l.initial.chunk-items l.chunk-items
