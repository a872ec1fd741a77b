use Rattle.flash.specs.declared.chunks.Chunk.TheVariants.{Blank}
use Rattle.bench.specs.Acts.{left_in}
use Rattle.bench.proofs.Remaking.{remade}
use Rattle.bench.proofs.benches.BenchChip.remake.Goals as goal

pub returns-clause-does : goal.returns-clause-does
returns-clause-does c =
    let s = c.args.self.now in
    remade (λ j x. left_in s j x Blank) s.sizes.chunks c.args.block s.sizes.blocks c.loop-c.c c.rows_of-rows.result s.rows c.deref_mut.result.now c.loop-c.chunk-items
    c.rows_of-rows.ensures c.deref_mut.ensures.value c.requires s.room c.loop-c-test.false c.loop-c.auto.chunk-items c.loop-c.invariant
