use Rattle.std.proofs.Common.{sym, ap, ◌∙◌, vec_items}
use Rattle.std.proofs.lemmas.Result.{err_from_is_err_and}
use Rattle.image.specs.Format.{image_of}
use Rattle.image.specs.Leaves.{state_of}
use Rattle.rules.specs.Calls.{delete}
use Rattle.store.specs.Stored.{stored}
use Rattle.files.specs.Answers.{files_on}
use Rattle.edits.specs.Tables.{full_on, remove_table}
use Rattle.edits.proofs.Over.{opened_start, edited_so, over_changed, costs_little}
use Rattle.edits.proofs.Refusing.{unfound, found_so, remove_refusal, change_not}
use Rattle.edits.proofs.remove.remove.Goals as goal

pub returns-in_err-object : goal.returns-in_err-object
returns-in_err-object c =
    let xs = vec_items c.args.bytes in
    let st = opened_start xs c.in_ok-store.store c.in_ok-store.ensures in
    let p = err_from_is_err_and c.from_residual-in_err-object.result c.from_residual-in_err-object.ensures.1 in
    rw (p.1, p.2) (unfound xs c.args.name.now (full_on xs) (stored c.in_ok-store.store) _ st c.in_err-object.ensures.0)

pub returns-in_err-counts : goal.returns-in_err-counts
returns-in_err-counts c =
    let xs = vec_items c.args.bytes in
    let s = stored c.in_ok-store.store in
    let st = opened_start xs c.in_ok-store.store c.in_ok-store.ensures in
    let f = found_so xs c.args.name.now s c.in_ok-object.object st c.in_ok-object.ensures.0 c.in_ok-object.ensures.1 in
    let p = err_from_is_err_and c.from_residual-in_err-counts.result c.from_residual-in_err-counts.ensures.1 in
    rw (p.1, p.2) (change_not xs (remove_table xs c.args.name.now) s _ (delete c.in_ok-object.object) _ st.accepted' (remove_refusal xs c.args.name.now s c.in_ok-object.object st f) c.in_err-counts.ensures)

pub returns : goal.returns
returns c =
    let xs = vec_items c.args.bytes in
    let o = c.in_ok-object.object in
    let s = stored c.in_ok-store.store in
    let new = c.delete.new.self in
    let cs = c.in_ok-counts.counts in
    let st = opened_start xs c.in_ok-store.store c.in_ok-store.ensures in
    let f = found_so xs c.args.name.now s o st c.in_ok-object.ensures.0 c.in_ok-object.ensures.1 in
    let step = c.in_ok-counts.ensures in
    edited_so xs c.args.name.now (remove_table xs c.args.name.now) (λ k. delete k) o (state_of new.chip) new.running new.held (vec_items new.index.standings) cs c.of.result
    st.accepted' f.found (sym (remove_refusal xs c.args.name.now s o st f) ∙ step.1)
    (over_changed xs (files_on xs) s (stored new) st.over (delete o) cs.programs cs.erases step)
    (costs_little xs (files_on xs) s (stored new) st.over (delete o) cs.programs cs.erases step)
    c.of.ensures.counts (ap (λ v. image_of (vec_items v)) (sym c.of.ensures.bytes))
