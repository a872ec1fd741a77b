use Rattle.std.proofs.Common.{◌≡◌, ℕ, ◌+◌, ◌*◌, ◌≤◌}
use Rattle.rules.specs.Runs.{TakesAll}
use Rattle.writing.specs.Writing.{flash_of, Tells}
use Rattle.cleaning.specs.Cleaning.{acts_to_add}
use Rattle.cleaning.proofs.Adding.{AddedTo}
use Rattle.cleaning.proofs.adds.add.Given as goal

abbrev pub invariant-loop : goal.invariant-loop
invariant-loop g l =
    record {
      programs : l.counts.programs ≤ 2048 * l.counter;
      erases : l.counts.erases ≤ l.counter;
      done : Tells (g.C.Chip.model l.fn.chip) l.fn.index
          → TakesAll (g.C.Chip.model l.fn.chip).n (g.C.Chip.model l.fn.chip).p (flash_of (g.C.Chip.model l.fn.chip) l.fn.index) (acts_to_add (flash_of (g.C.Chip.model l.fn.chip) l.fn.index) l.record)
          → (left : ℕ) → left + l.counter ≡ 9
          → AddedTo (g.C.Chip.model l.fn.chip) l.fn.index l.record (acts_to_add (flash_of (g.C.Chip.model l.fn.chip) l.fn.index) l.record) left l.counts.programs l.counts.erases (g.C.Chip.model l.chip) l.index;
    }
