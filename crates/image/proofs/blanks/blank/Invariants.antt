use Rattle.std.proofs.Common.{◌≡◌, ◌++◌, vec_items}
use Rattle.image.specs.Blanks.{head_of, blank_chunks}
use Rattle.image.proofs.blanks.blank.Given as goal

abbrev pub invariant-loop : goal.invariant-loop
invariant-loop l = vec_items l.bytes ≡ head_of l.blocks l.chunks ++ blank_chunks l.counter
