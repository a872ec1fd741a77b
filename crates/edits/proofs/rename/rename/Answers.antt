use Rattle.std.proofs.Common.{◌∷◌, sym, ap, ◌∙◌, vec_items}
use Rattle.std.proofs.lemmas.Result.{err_from_is_err_and}
use Rattle.image.specs.Format.{image_of}
use Rattle.image.specs.Leaves.{state_of}
use Rattle.rules.specs.Calls.{rename, find}
use Rattle.rules.specs.Refusals.{no_name}
use Rattle.store.specs.Stored.{stored}
use Rattle.files.specs.Answers.{files_on}
use Rattle.edits.specs.Tables.{full_on, name_of_other, rename_table}
use Rattle.edits.proofs.Over.{opened_start, edited_so, over_changed, costs_little}
use Rattle.edits.proofs.Refusing.{unfound, found_so, rename_refusal, change_not}
use Rattle.edits.proofs.rename.rename.Goals as goal

pub returns-in_err-object : goal.returns-in_err-object
returns-in_err-object c =
    let xs = vec_items c.args.bytes in
    let st = opened_start xs c.in_ok-store.store c.in_ok-store.ensures in
    let p = err_from_is_err_and c.from_residual-in_err-object.result c.from_residual-in_err-object.ensures.1 in
    rw (p.1, p.2) (unfound xs c.args.name.now ((19, no_name c.args.new.now) ∷ (22, name_of_other (files_on xs) (find (files_on xs) c.args.name.now) c.args.new.now) ∷ full_on xs) (stored c.in_ok-store.store) _ st c.in_err-object.ensures.0)

pub returns-in_err-counts : goal.returns-in_err-counts
returns-in_err-counts c =
    let xs = vec_items c.args.bytes in
    let s = stored c.in_ok-store.store in
    let st = opened_start xs c.in_ok-store.store c.in_ok-store.ensures in
    let f = found_so xs c.args.name.now s c.in_ok-object.object st c.in_ok-object.ensures.0 c.in_ok-object.ensures.1 in
    let p = err_from_is_err_and c.from_residual-in_err-counts.result c.from_residual-in_err-counts.ensures.1 in
    rw (p.1, p.2) (change_not xs (rename_table xs c.args.name.now c.args.new.now) s _ (rename c.in_ok-object.object c.args.new.now) _ st.accepted' (rename_refusal xs c.args.name.now s c.in_ok-object.object st f c.args.new.now) c.in_err-counts.ensures)

pub returns : goal.returns
returns c =
    let xs = vec_items c.args.bytes in
    let o = c.in_ok-object.object in
    let s = stored c.in_ok-store.store in
    let new = c.rename.new.self in
    let cs = c.in_ok-counts.counts in
    let st = opened_start xs c.in_ok-store.store c.in_ok-store.ensures in
    let f = found_so xs c.args.name.now s o st c.in_ok-object.ensures.0 c.in_ok-object.ensures.1 in
    let step = c.in_ok-counts.ensures in
    edited_so xs c.args.name.now (rename_table xs c.args.name.now c.args.new.now) (λ k. rename k c.args.new.now) o (state_of new.chip) new.running new.held (vec_items new.index.standings) cs c.of.result
    st.accepted' f.found (sym (rename_refusal xs c.args.name.now s o st f c.args.new.now) ∙ step.1)
    (over_changed xs (files_on xs) s (stored new) st.over (rename o c.args.new.now) cs.programs cs.erases step)
    (costs_little xs (files_on xs) s (stored new) st.over (rename o c.args.new.now) cs.programs cs.erases step)
    c.of.ensures.counts (ap (λ v. image_of (vec_items v)) (sym c.of.ensures.bytes))
