use Rattle.std.proofs.Common.{sym, subst, ◌∙◌}
use Rattle.std.proofs.lemmas.Result.{err_from_is_err_and}
use Rattle.cleaning.specs.declared.adds.Counts.{Counts}
use Rattle.rules.specs.Reading.{files}
use Rattle.rules.specs.Refusals.{recs}
use Rattle.store.specs.Stored.{stored}
use Rattle.edits.specs.Creating.{Made}
use Rattle.edits.proofs.Making.{made_found, made_new, not_new, not_found, none_free}
use Rattle.edits.proofs.Turning.{counts_zero}
use Rattle.edits.proofs.creating.object_for.Goals as goal

pub returns-in_err-object : goal.returns-in_err-object
returns-in_err-object c =
    let p = err_from_is_err_and c.from_residual.result c.from_residual.ensures.1 in
    rw (p.1, p.2) (not_found (stored c.args.store.now) c.args.name.now _ c.requires.runs c.in_err-object.ensures.0)

pub returns-in_err-object-2 : goal.returns-in_err-object-2
returns-in_err-object-2 c =
    let p = err_from_is_err_and c.from_residual-in_err-object-2.result c.from_residual-in_err-object-2.ensures.1 in
    rw (p.1, p.2) (none_free (files (recs (stored c.args.store.now))) c.args.name.now _ (sym c.in_default.is ∙ c.in_ok-object.ensures.1) c.in_err-object-2.ensures)

pub returns-in-Some : goal.returns-in-Some
returns-in-Some c =
    let s = stored c.args.store.now in
    subst (λ (k : Counts). Made s c.args.name.now c.in-Some.object k s) (sym (counts_zero c.default.result c.default.ensures.0 c.default.ensures.1))
    (made_found s c.args.name.now c.in-Some.object c.requires.holds c.requires.runs (sym c.in-Some.is ∙ c.in_ok-object.ensures.1))

pub returns-in_err-counts : goal.returns-in_err-counts
returns-in_err-counts c =
    let p = err_from_is_err_and c.from_residual-in_err-counts.result c.from_residual-in_err-counts.ensures.1 in
    rw (p.1, p.2) (
    not_new (stored c.args.store.now) _ c.args.name.now c.in_ok-object-2.object _ c.requires.runs c.in_ok-object.ensures.0 (sym c.in_default.is ∙ c.in_ok-object.ensures.1) c.in_ok-object-2.ensures c.in_err-counts.ensures
    )

pub returns : goal.returns
returns c =
    made_new (stored c.args.store.now) (stored c.create.new.self) c.args.name.now c.in_ok-object-2.object c.in_ok-counts.counts c.requires.holds c.requires.runs (sym c.in_default.is ∙ c.in_ok-object.ensures.1)
    c.in_ok-object-2.ensures c.in_ok-counts.ensures
