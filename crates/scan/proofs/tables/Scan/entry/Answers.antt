use Rattle.std.proofs.Common.{◌∙◌}
use Rattle.scan.proofs.Telling.{row-tag}
use Rattle.scan.proofs.tables.Scan.entry.Goals as goal

pub returns-in_err-tag : goal.returns-in_err-tag
returns-in_err-tag g c = rw c.from_residual.ensures (row-tag c.args.self.now.table c.args.row c.args.look c.tag.result c.requires.told c.tag.ensures ∙ c.in_err-tag.was)

pub invariant_of-result-clause-told : goal.invariant_of-result-clause-told
invariant_of-result-clause-told g c = row-tag c.args.self.now.table c.args.row c.args.look c.tag.result c.requires.told c.tag.ensures ∙ c.in_ok-tag.was
