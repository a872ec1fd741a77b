use Rattle.std.proofs.Common.{◌≡◌, ◌++◌, vec_items}
use Rattle.replays.specs.Saves.{blocks_image}
use Rattle.replays.proofs.saves.blocks.Given as goal

abbrev pub invariant-loop-number : goal.invariant-loop-number
invariant-loop-number g l = vec_items l.out ≡ vec_items l.initial.out ++ blocks_image (g.C.Chip.model l.chip) l.number
