use Rattle.std.proofs.Common.{◌≡◌, ◌-◌, ◌≤◌, Some}
use Rattle.flash.specs.Blocks.{standing}
use Rattle.flash.specs.Model.{blocks_of}
use Rattle.rules.specs.Calls.{byte_at}
use Rattle.rules.specs.Reading.{File, files}
use Rattle.scan.specs.Indexes.{looks_in}
use Rattle.questions.specs.Reads.{laid, Readable}
use Rattle.questions.proofs.reads.read_from.Given as goal

abbrev pub invariant-loop-at : goal.invariant-loop-at
invariant-loop-at g l =
    (l.at ≤ l.count)
    × ((f : File) → Readable (g.C.Chip.model l.chip) l.index.sizes (looks_in l.index) → files (standing (blocks_of (g.C.Chip.model l.chip))) l.object ≡ Some f → l.buffer ≡ laid (byte_at f) l.position l.at l.initial.buffer)

abbrev pub decreases-loop-at : goal.decreases-loop-at
decreases-loop-at g l = l.count - l.at
