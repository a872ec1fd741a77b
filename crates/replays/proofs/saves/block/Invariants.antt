use Rattle.std.proofs.Common.{◌≡◌, ◌++◌, vec_items}
use Rattle.replays.specs.Saves.{block_image}
use Rattle.replays.proofs.saves.block.Given as goal

abbrev pub invariant-loop-place : goal.invariant-loop-place
invariant-loop-place g l = vec_items l.out ≡ vec_items l.initial.out ++ block_image (g.C.Chip.model l.chip) l.block l.place
