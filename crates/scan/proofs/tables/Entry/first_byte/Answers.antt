use Rattle.std.proofs.Common.{refl, ap, ◌∙◌}
use Rattle.rules.specs.Records.{is_header}
use Rattle.names.specs.Names.{entries_of}
use Rattle.scan.proofs.Telling.{recorded}
use Rattle.scan.proofs.Noting.{NotedIf, header-first, other-first}
use Rattle.scan.proofs.tables.Entry.first_byte.Goals as goal
use Rattle.scan.proofs.tables.Entry.first_byte.Goals.{then-in_file, else-in_file}

pub returns-then-not-is_header : goal.returns-then-not-is_header
returns-then-not-is_header g c =
    let e = c.args.self.now in
    other-first _ e.scan.now.rows.now e.row e.tag (entries_of c.args.names.now) c.is_header.result (c.is_header.ensures ∙ ap is_header c.kind_of.ensures) (recorded e.told) c.if-not-is_header.true

pub returns : goal.returns
returns g c =
    let e = c.args.self.now in
    let rows = e.scan.now.rows.now in
    let before = entries_of c.args.names.now in
    let n : NotedIf rows e.tag c.read.new.data before (entries_of c.if-in_file.names) =
    elim c.if-in_file.branch [
      | then-in_file w ↦ (λ o. rw (w.names-is, ← w.if-in_file.ensures, ← w.object_of.ensures) (w.note.ensures o))
      | else-in_file w ↦ (λ o. rw (w.names-is, ← w.if-in_file.ensures) refl)
    ] in
    header-first _ rows e.row e.tag before c.is_header.result (c.is_header.ensures ∙ ap is_header c.kind_of.ensures) c.read.new.data (entries_of c.if-in_file.names) c.in_ok-read.ensures c.if-not-is_header.false n
