use Rattle.std.proofs.Common.{◌≡◌, ◌≤◌, get_or}
use Rattle.rules.specs.declared.standings.Standing.TheVariants.{Blank, Closed}
use Rattle.rules.specs.Runs.{TakesAll}
use Rattle.scan.specs.Indexes.{stands_in}
use Rattle.writing.specs.Writing.{flash_of, Tells}
use Rattle.cleaning.specs.Steps.{load_copies}
use Rattle.cleaning.proofs.Copying.{CopiedTo}
use Rattle.cleaning.proofs.copies.copy_load.Given as goal

abbrev pub invariant-loop-chunk : goal.invariant-loop-chunk
invariant-loop-chunk g l =
    record {
      few : l.copies ≤ l.chunk;
      done : Tells (g.C.Chip.model l.fn.chip) l.fn.index → get_or (stands_in l.fn.index) l.block Blank ≡ Closed
          → TakesAll (g.C.Chip.model l.fn.chip).n (g.C.Chip.model l.fn.chip).p (flash_of (g.C.Chip.model l.fn.chip) l.fn.index) (load_copies (g.C.Chip.model l.fn.chip) l.fn.index l.block)
          → CopiedTo (g.C.Chip.model l.fn.chip) l.fn.index l.block l.chunk l.copies (g.C.Chip.model l.chip) l.index;
    }
