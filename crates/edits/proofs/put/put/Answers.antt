use Rattle.std.proofs.Common.{sym, ap, ◌∙◌, vec_items}
use Rattle.std.proofs.lemmas.Result.{err_from_is_err_and}
use Rattle.image.specs.Format.{image_of}
use Rattle.image.specs.Leaves.{state_of}
use Rattle.store.specs.Stored.{stored}
use Rattle.edits.proofs.Over.{opened_start}
use Rattle.edits.proofs.Putting.{put_unmade, put_unwritten, opens_made, put_small, put_so}
use Rattle.edits.proofs.put.put.Goals as goal

pub object_for-requires : goal.object_for-requires
object_for-requires g c =
    let st = opened_start (vec_items c.args.bytes) c.in_ok-store.store c.in_ok-store.ensures in
    record { holds = st.over.holds; runs = st.over.running }

pub write-requires-clause-free : goal.write-requires-clause-free
write-requires-clause-free g c =
    let st = opened_start (vec_items c.args.bytes) c.in_ok-store.store c.in_ok-store.ensures in
    opens_made (vec_items c.args.bytes) c.args.name.now (stored c.in_ok-store.store) (stored c.object_for.new.store) c.in_ok-object.object c.in_ok-object.made st c.in_ok-object.ensures

pub returns-in_err-object : goal.returns-in_err-object
returns-in_err-object g c =
    let st = opened_start (vec_items c.args.bytes) c.in_ok-store.store c.in_ok-store.ensures in
    let p = err_from_is_err_and c.from_residual-in_err-object.result c.from_residual-in_err-object.ensures.1 in
    rw (p.1, p.2) (put_unmade (vec_items c.args.bytes) c.args.name.now c.args.content.now (stored c.in_ok-store.store) _ st c.in_err-object.ensures)

pub returns-in_err-written : goal.returns-in_err-written
returns-in_err-written g c =
    let st = opened_start (vec_items c.args.bytes) c.in_ok-store.store c.in_ok-store.ensures in
    let p = err_from_is_err_and c.from_residual-in_err-written.result c.from_residual-in_err-written.ensures.1 in
    rw (p.1, p.2) (put_unwritten (vec_items c.args.bytes) c.args.name.now c.args.content.now (stored c.in_ok-store.store) _ st c.in_err-written.ensures)

pub both-requires-clause-programs : goal.both-requires-clause-programs
both-requires-clause-programs g c =
    let xs = vec_items c.args.bytes in
    let st = opened_start xs c.in_ok-store.store c.in_ok-store.ensures in
    (put_small xs c.args.name.now c.args.content.now (stored c.in_ok-store.store) (stored c.object_for.new.store) (stored c.write.new.store) c.in_ok-object.object c.in_ok-object.made c.in_ok-written.written st c.in_ok-object.ensures c.in_ok-written.ensures).0

pub both-requires-clause-erases : goal.both-requires-clause-erases
both-requires-clause-erases g c =
    let xs = vec_items c.args.bytes in
    let st = opened_start xs c.in_ok-store.store c.in_ok-store.ensures in
    (put_small xs c.args.name.now c.args.content.now (stored c.in_ok-store.store) (stored c.object_for.new.store) (stored c.write.new.store) c.in_ok-object.object c.in_ok-object.made c.in_ok-written.written st c.in_ok-object.ensures c.in_ok-written.ensures).1

pub returns : goal.returns
returns g c =
    let xs = vec_items c.args.bytes in
    let new = c.write.new.store in
    let st = opened_start xs c.in_ok-store.store c.in_ok-store.ensures in
    put_so xs c.args.name.now c.args.content.now (stored c.in_ok-store.store) (stored c.object_for.new.store) c.in_ok-object.object c.in_ok-object.made c.in_ok-written.written
    (state_of new.chip) new.running new.held (vec_items new.index.standings) c.of.result st c.in_ok-object.ensures c.in_ok-written.ensures
    (c.of.ensures.counts ∙ c.both.ensures) (ap (λ v. image_of (vec_items v)) (sym c.of.ensures.bytes))
