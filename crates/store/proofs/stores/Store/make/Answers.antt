use Rattle.std.proofs.Common.{refl}
use Rattle.rules.specs.Calls.{put, cut, delete}
use Rattle.store.specs.Stored.{stored}
use Rattle.store.proofs.Makes.{changed_made, mount_made}
use Rattle.store.proofs.stores.Store.make.Goals as goal

pub returns-in-Put : goal.returns-in-Put
returns-in-Put g c =
    rw (c.counted-in-Put.ensures, c.in-Put.is)
    (changed_made (stored c.args.self.now) (put c.in-Put.file.number c.in-Put.number c.in-Put.bytes.now) _ (stored c.put_to.new.self) refl c.put_to.ensures)

pub returns-in-Cut : goal.returns-in-Cut
returns-in-Cut g c =
    rw (c.counted-in-Cut.ensures, c.in-Cut.is) (changed_made (stored c.args.self.now) (cut c.in-Cut.file.number c.in-Cut.length) _ (stored c.cut_to.new.self) refl c.cut_to.ensures)

pub returns-in-Delete : goal.returns-in-Delete
returns-in-Delete g c =
    rw (c.counted-in-Delete.ensures, c.in-Delete.is) (changed_made (stored c.args.self.now) (delete c.in-Delete.object) _ (stored c.delete.new.self) refl c.delete.ensures)

pub returns-in-Mount : goal.returns-in-Mount
returns-in-Mount g c =
    let h = c.mount.ensures in
    rw (c.granted-in-Mount.ensures, c.in-Mount.is)
    (mount_made (g.C.Chip.model c.args.self.now.chip) c.args.self.now.running c.args.self.now.held _ (g.C.Chip.model c.mount.new.self.chip) c.mount.new.self.running c.mount.new.self.held _
    h.chip h.runs.1 c.mount.result h.answers h.runs.0 h.leaves)
