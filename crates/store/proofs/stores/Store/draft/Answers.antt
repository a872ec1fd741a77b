use Rattle.std.proofs.Common.{ℕ, List, Bor, ap, ◌∙◌}
use Rattle.reading.specs.Sizes.{length_of}
use Rattle.tags.specs.Bare.{records}
use Rattle.std.specs.Option.{unwrap_or}
use Rattle.store.proofs.Checked.{some_unwraps, create_record, put_record, cut_record, rename_record, delete_record}
use Rattle.store.proofs.stores.Store.draft.Goals as goal

pub returns-in-Create : goal.returns-in-Create
returns-in-Create g c =
    let old = c.args.self.now in
    rw (c.in-Create.is) (create_record _ _ _ _ old.known old.present _ _ c.next_serial-serial.ensures c.in-Create.object c.in-Create.name.now c.create.ensures)

pub returns-in-Put : goal.returns-in-Put
returns-in-Put g c =
    let old = c.args.self.now in
    rw (c.in-Put.is) (put_record _ _ _ _ old.known old.present _ _ c.next_serial-serial.ensures c.in-Put.object c.in-Put.number c.in-Put.bytes.now c.put.ensures)

pub returns-in-Cut : goal.returns-in-Cut
returns-in-Cut g c =
    let old = c.args.self.now in
    rw (c.in-Cut.is)
    (cut_record _ _ _ _ old.known old.present _ _ c.next_serial-serial.ensures c.in-Cut.object c.in-Cut.length _
    (λ n e. some_unwraps (λ (b : Bor (List ℕ)). b.now) _ _ _ n c.unwrap_or_default-name.ensures (c.name.ensures ∙ e)) c.cut.ensures)

pub returns-in-Rename : goal.returns-in-Rename
returns-in-Rename g c =
    let old = c.args.self.now in
    rw (c.in-Rename.is)
    (rename_record _ _ _ _ old.known old.present _ _ c.next_serial-serial.ensures c.in-Rename.object c.in-Rename.name.now c.unwrap_or-length.result
    (c.unwrap_or-length.ensures ∙ ap (λ m. unwrap_or m 0) (c.length.ensures ∙ ap (λ ls. length_of (records ls) c.in-Rename.object) c.looks.ensures)) c.rename.ensures)

pub returns-in-Delete : goal.returns-in-Delete
returns-in-Delete g c =
    let old = c.args.self.now in
    rw (c.in-Delete.is) (delete_record _ _ _ _ old.known old.present _ _ c.next_serial-serial.ensures c.in-Delete.object c.delete.ensures)
