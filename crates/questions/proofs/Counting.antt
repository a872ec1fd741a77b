-- What there is on a chip, from what the index tells. Assumes nothing.
use Rattle.std.proofs.Common.{◌≡◌, length, sym, ap, ◌∙◌}
use Rattle.flash.specs.Blocks.{standing}
use Rattle.flash.specs.Model.{State, blocks_of, view_of}
use Rattle.rules.specs.Calls.{objects, rows}
use Rattle.rules.specs.Lists.{largest}
use Rattle.rules.specs.Reading.{files, used, used_by}
use Rattle.rules.proofs.Counting.{used-by-files}
use Rattle.tags.specs.Bare.{records}
use Rattle.table.proofs.Alikes.{bare-reads-alike}
use Rattle.scan.specs.declared.indexes.Index.{Index}
use Rattle.scan.specs.Indexes.{looks_in, Knows}
use Rattle.questions.specs.Lists.{table_rows}
use Rattle.questions.proofs.Knowing.{good, records-are, rows_told}

module _ (s : State) (x : Index) (f : Knows (view_of s) x) where
  pub used_known : used (records (looks_in x)) ≡ used_by (files (standing (blocks_of s)))
  used_known = ap used (records-are s x f) ∙ (bare-reads-alike (standing (blocks_of s))).used_same ∙ sym (used-by-files (standing (blocks_of s)) (good s x f).unique (good s x f).rules)

  pub serial_known : largest (λ r. r.tag.serial) (records (looks_in x)) ≡ largest (λ r. r.tag.serial) (standing (blocks_of s))
  serial_known = ap (largest (λ r. r.tag.serial)) (records-are s x f) ∙ (bare-reads-alike (standing (blocks_of s))).serial_same

  pub files_known : length (table_rows (records (looks_in x)) objects) ≡ length (rows (files (standing (blocks_of s))))
  files_known = ap length (rows_told s x f)
