use Rattle.std.proofs.Common.{◌≡◌, ◌++◌, take, string_bytes}
use Rattle.rules.specs.Reading.{files}
use Rattle.rules.specs.Refusals.{recs}
use Rattle.store.specs.Stored.{stored}
use Rattle.files.specs.Listing.{lines_text}
use Rattle.files.proofs.ls.file_lines.Given as goal

abbrev pub invariant-loop-row : goal.invariant-loop-row
invariant-loop-row l = string_bytes l.out ≡ string_bytes l.initial.out ++ lines_text (files (recs (stored l.store))) (take l.row-index l.rows)
