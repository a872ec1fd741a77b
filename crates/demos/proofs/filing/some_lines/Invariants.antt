use Rattle.std.proofs.Common.{◌≡◌, ◌++◌, take, string_bytes}
use Rattle.rules.specs.Reading.{files}
use Rattle.rules.specs.Refusals.{recs}
use Rattle.store.specs.Stored.{stored}
use Rattle.demos.specs.Telling.{file_lines}
use Rattle.demos.proofs.filing.some_lines.Given as goal

abbrev pub invariant-loop-row : goal.invariant-loop-row
invariant-loop-row l = string_bytes l.out ≡ string_bytes l.initial.out ++ file_lines (files (recs (stored l.store))) (take l.row-index l.rows)
