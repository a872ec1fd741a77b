use Rattle.std.proofs.Common.{sym, ap, ◌∙◌, vec_items}
use Rattle.std.proofs.lemmas.Result.{err_from_is_err_and}
use Rattle.image.specs.declared.images.ImageChip.{ImageChip}
use Rattle.image.specs.Format.{image_of}
use Rattle.image.specs.Leaves.{state_of}
use Rattle.rules.specs.Calls.{collect}
use Rattle.store.specs.Stored.{stored}
use Rattle.edits.specs.Tables.{collect_table}
use Rattle.edits.proofs.Over.{opened_start, collected_so}
use Rattle.edits.proofs.Refusing.{change_not, collect_refusal}
use Rattle.edits.proofs.collect.collect.Goals as goal

pub returns-in_err-block : goal.returns-in_err-block
returns-in_err-block c =
    let xs = vec_items c.args.bytes in
    let s = stored c.in_ok-store.store in
    let st = opened_start xs c.in_ok-store.store c.in_ok-store.ensures in
    let p = err_from_is_err_and c.from_residual-in_err-block.result c.from_residual-in_err-block.ensures.1 in
    rw (p.1, p.2) (change_not xs (collect_table xs) s _ collect _ st.accepted' (collect_refusal xs s st) c.in_err-block.ensures)

pub returns : goal.returns
returns c =
    let xs = vec_items c.args.bytes in
    let s = stored c.in_ok-store.store in
    let new = c.collect.new.self in
    let st = opened_start xs c.in_ok-store.store c.in_ok-store.ensures in
    let step = c.in_ok-block.ensures in
    collected_so xs s (state_of new.chip) new.running new.held (vec_items new.index.standings) _ st (sym (collect_refusal xs s st) ∙ step.1) step
    (ap (λ (k : ImageChip). image_of (vec_items k.bytes)) (sym c.release.ensures) ∙ ap (λ v. image_of (vec_items v)) (sym c.into_bytes.ensures))
