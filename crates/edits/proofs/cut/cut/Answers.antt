use Rattle.std.proofs.Common.{◌∷◌, sym, ap, vec_items, nat_lt, nat_le}
use Rattle.std.proofs.lemmas.Result.{err_from_is_err_and}
use Rattle.image.specs.Format.{image_of}
use Rattle.image.specs.Leaves.{state_of}
use Rattle.rules.specs.Calls.{cut, find, long_of}
use Rattle.store.specs.Stored.{stored}
use Rattle.files.specs.Answers.{files_on}
use Rattle.edits.specs.Tables.{full_on, file_found, cut_table}
use Rattle.edits.proofs.Over.{opened_start, edited_so}
use Rattle.edits.proofs.Refusing.{unfound, found_so}
use Rattle.edits.proofs.Lending.{lent_not, lent_free, lent_over, lent_cheap}
use Rattle.edits.proofs.cut.cut.Goals as goal

pub returns-in_err-object : goal.returns-in_err-object
returns-in_err-object c =
    let xs = vec_items c.args.bytes in
    let st = opened_start xs c.in_ok-store.store c.in_ok-store.ensures in
    let p = err_from_is_err_and c.from_residual-in_err-object.result c.from_residual-in_err-object.ensures.1 in
    rw (p.1, p.2) (unfound xs c.args.name.now ((17, nat_lt 1000 c.args.length) ∷ (25, nat_le (long_of (file_found (files_on xs) (find (files_on xs) c.args.name.now))) c.args.length) ∷ full_on xs) (stored c.in_ok-store.store) _ st c.in_err-object.ensures.0)

pub returns-in_err-counts : goal.returns-in_err-counts
returns-in_err-counts c =
    let xs = vec_items c.args.bytes in
    let s = stored c.in_ok-store.store in
    let st = opened_start xs c.in_ok-store.store c.in_ok-store.ensures in
    let f = found_so xs c.args.name.now s c.in_ok-object.object st c.in_ok-object.ensures.0 c.in_ok-object.ensures.1 in
    let p = err_from_is_err_and c.from_residual-in_err-counts.result c.from_residual-in_err-counts.ensures.1 in
    rw (p.1, p.2) (lent_not xs c.args.name.now s _ c.in_ok-object.object c.args.length st f _ c.in_err-counts.ensures)

pub returns : goal.returns
returns c =
    let xs = vec_items c.args.bytes in
    let o = c.in_ok-object.object in
    let s = stored c.in_ok-store.store in
    let new = c.cut_file.new.store in
    let cs = c.in_ok-counts.counts in
    let st = opened_start xs c.in_ok-store.store c.in_ok-store.ensures in
    let f = found_so xs c.args.name.now s o st c.in_ok-object.ensures.0 c.in_ok-object.ensures.1 in
    let lent = c.in_ok-counts.ensures in
    edited_so xs c.args.name.now (cut_table xs c.args.name.now c.args.length) (λ k. cut k c.args.length) o (state_of new.chip) new.running new.held (vec_items new.index.standings) cs c.of.result
    st.accepted' f.found (lent_free xs c.args.name.now s (stored new) o c.args.length st f cs lent)
    (lent_over xs c.args.name.now s (stored new) o c.args.length st f cs lent)
    (lent_cheap xs c.args.name.now s (stored new) o c.args.length st f cs lent)
    c.of.ensures.counts (ap (λ v. image_of (vec_items v)) (sym c.of.ensures.bytes))
