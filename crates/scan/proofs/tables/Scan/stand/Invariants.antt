use Rattle.std.proofs.Common.{◌≡◌, map, take}
use Rattle.flash.specs.Model.{blocks_of}
use Rattle.rules.specs.Mounting.{mounted_block}
use Rattle.scan.proofs.tables.Scan.stand.Given as goal

abbrev pub invariant-loop-block : goal.invariant-loop-block
invariant-loop-block g l = take l.block l.standings ≡ take l.block (map mounted_block (blocks_of (g.C.Chip.model l.self.chip.now)))
