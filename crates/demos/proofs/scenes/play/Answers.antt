use Rattle.std.proofs.Common.{◌≡◌, ◌++◌, List, Ok, length, take, drop, map, string_bytes, refl, sym, subst, ◌∙◌}
use Rattle.std.proofs.lemmas.List.{length-map, take_at}
use Rattle.bench.specs.declared.benches.BenchChip.{BenchChip}
use Rattle.bench.specs.Benches.{state_of}
use Rattle.runs.specs.Runs.{Ran}
use Rattle.store.specs.declared.making.Answer.{Answer}
use Rattle.store.specs.Making.{call_told}
use Rattle.store.specs.Stored.{stored}
use Rattle.demos.specs.Demos.{Attached}
use Rattle.demos.proofs.Playing.{told_played}
use Rattle.demos.proofs.scenes.play.Goals as goal

pub returns : goal.returns
returns c =
    let calls = map call_told c.args.calls.now in
    let begun = stored c.in-Ok.store in
    let kept = c.in-Ok.ensures in
    let rows = c.deref_mut.result.now in
    let is = c.run.new.answers in
    let vec = c.in_ok-answers in
    let long : length rows ≡ length calls = c.deref_mut.ensures.len ∙ vec.ensures.len ∙ sym (length-map c.args.calls.now call_told) in
    let written : take vec.answers.len (is ++ drop (length is) vec.answers.items) ≡ is = take_at is (drop (length is) vec.answers.items) vec.answers.len (c.run.auto.answers ∙ c.deref_mut.ensures.len) in
    let answers = c.deref.result.now in
    let same : answers ≡ is = c.deref.ensures.value ∙ written in
    told_played (state_of c.args.chip) (state_of c.run.new.store.chip) begun (stored c.run.new.store) calls rows answers c.in_ok-run.field-0 (string_bytes c.args.out.now) (string_bytes c.call_lines.new.out)
    (subst (λ (k : BenchChip). Attached (state_of k) begun) kept.0 (record { chip = record { n_same = refl; p_same = refl; power_same = refl; contents = refl }; stopped = kept.1; none_open = kept.2 }))
    long
    (subst (λ (as' : List Answer). Ran begun calls rows (Ok c.in_ok-run.field-0) (stored c.run.new.store) as') (sym same) c.in_ok-run.ensures)
    (record { n_same = refl; p_same = refl; power_same = refl; contents = refl })
    c.in_ok-call_lines.ensures
