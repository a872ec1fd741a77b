use Rattle.std.proofs.Common.{refl, sym, ◌∙◌}
use Rattle.store.specs.Stored.{stored}
use Rattle.store.proofs.stores.Store.check.Goals as goal

pub returns-in-Create : goal.returns-in-Create
returns-in-Create g c = rw (c.in-Create.is) (c.create.ensures (stored c.args.self.now) c.in_ok-index.ensures.runs)

pub returns-in-Put : goal.returns-in-Put
returns-in-Put g c =
    let k = c.in_ok-index.ensures.runs in
    rw (c.in-Put.is)
    (c.put.ensures (stored c.args.self.now) c.in-Put.bytes.now k (sym c.is_open.ensures) refl (λ h. c.args.self.now.present k.running c.in-Put.object (sym c.is_open.ensures ∙ h)))

pub returns-in-Cut : goal.returns-in-Cut
returns-in-Cut g c = rw (c.in-Cut.is) (c.cut.ensures (stored c.args.self.now) c.in_ok-index.ensures.runs (sym c.is_open-in-Cut.ensures))

pub returns-in-Rename : goal.returns-in-Rename
returns-in-Rename g c = rw (c.in-Rename.is) (c.rename.ensures (stored c.args.self.now) c.in_ok-index.ensures.runs (sym c.is_open-in-Rename.ensures))

pub returns-in-Delete : goal.returns-in-Delete
returns-in-Delete g c = rw (c.in-Delete.is) (c.delete.ensures (stored c.args.self.now) c.in_ok-index.ensures.runs (sym c.is_open-in-Delete.ensures))
