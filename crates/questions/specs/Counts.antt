-- What there is on a chip, counted. Assumes nothing.
use Rattle.std.specs.Prelude.{◌≡◌, List, length}
use Rattle.flash.specs.Blocks.{standing}
use Rattle.flash.specs.Model.{State, blocks_of}
use Rattle.rules.specs.declared.standings.Standing.{Standing}
use Rattle.rules.specs.Calls.{rows}
use Rattle.rules.specs.Lists.{count, largest}
use Rattle.rules.specs.Mounting.{limit as most_used}
use Rattle.rules.specs.Places.{is_blank_s}
use Rattle.rules.specs.Reading.{files, used_by}
use Rattle.questions.specs.declared.counts.Totals.{Totals}

-- the files, the chunks that they use and may use, the blocks that stand blank, and the highest serial, 0 where no record stands
pub record Counted (s : State) (stand : List Standing) (c : Totals) : Type 0 where
  pub files_are : c.files ≡ length (rows (files (standing (blocks_of s))))
  pub used_is : c.used ≡ used_by (files (standing (blocks_of s)))
  pub limit_is : c.limit ≡ most_used s.n s.p
  pub blank_are : c.blank ≡ count is_blank_s stand
  pub serial_is : c.serial ≡ largest (λ r. r.tag.serial) (standing (blocks_of s))
