use Rattle.std.proofs.Common.{◌∙◌}
use Rattle.store.specs.Stored.{stored}
use Rattle.edits.proofs.Making.{has_so}
use Rattle.edits.proofs.creating.has_file.Goals as goal

pub returns : goal.returns
returns c = c.is_ok.ensures.value ∙ has_so (stored c.args.store.now) c.args.object c.name.result _ c.requires c.name.ensures
