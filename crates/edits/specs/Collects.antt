-- An image after a collect. Assumes nothing.
use Rattle.std.specs.Prelude.{◌≡◌, ℕ, ◌<◌, List, Some, vec_items}
use Rattle.flash.specs.Model.{blocks_of}
use Rattle.image.specs.Format.{image_of}
use Rattle.rules.specs.Mounting.{mounted}
use Rattle.rules.specs.Places.{clean, to_clean, runs}
use Rattle.rules.specs.Refusals.{first_of}
use Rattle.opening.specs.Opening.{Accepted}
use Rattle.files.specs.Answers.{files_on}
use Rattle.edits.specs.declared.collect.Collected.{Collected}
use Rattle.edits.specs.Edits.{Becomes}
use Rattle.edits.specs.Tables.{collect_table}

-- the block to clean was cleaned, with fewer than P copies, and the files are as they were
pub record IsCollected (xs : List ℕ) (c : Collected) : Type 0 where
  pub was : Accepted xs
  pub free : first_of (collect_table xs) ≡ 0
  pub block : to_clean (mounted (blocks_of (image_of xs))) ≡ Some (c.block, c.copies)
  pub few : c.copies < (image_of xs).p
  pub contents : blocks_of (image_of (vec_items c.bytes)) ≡ (runs (mounted (blocks_of (image_of xs))) (clean (mounted (blocks_of (image_of xs))))).blocks
  pub is : Becomes xs (files_on xs) (vec_items c.bytes)
