use Rattle.std.proofs.Common.{◌≡◌, ◌<◌, ℕ, false, get_or}
use Rattle.flash.specs.Model.{State, blocks_of}
use Rattle.table.specs.Loads.{load_at}
use Rattle.writing.specs.Writing.{Tells}
use Rattle.cleaning.proofs.loads.mark_load.Given as goal

abbrev pub invariant-loop-chunk : goal.invariant-loop-chunk
invariant-loop-chunk l = (s : State) → Tells s l.index → l.block < s.n → (c : ℕ) → c < l.chunk → get_or l.mark-items c false ≡ load_at (blocks_of s) l.block c
