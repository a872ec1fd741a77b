use Rattle.std.proofs.Common.{sym, ◌∙◌, arith}
use Rattle.std.proofs.lemmas.Result.{err_from_is_err_and}
use Rattle.flash.proofs.Views.{block-length}
use Rattle.cleaning.proofs.Copying.{begun, is-there, pass, ended, copied-more, copied-broken}
use Rattle.cleaning.proofs.Marks.{few_chunks}
use Rattle.cleaning.proofs.copies.copy_load.Goals as goal
use Rattle.cleaning.proofs.copies.copy_load.Goals.{then-marked+in_ok-copies, else-marked}

pub loop-chunk-init : goal.loop-chunk-init
loop-chunk-init g c = record { few = omega arith; done = λ t cl takes. begun _ _ c.args.block t cl }

pub loop-chunk-preserved : goal.loop-chunk-preserved
loop-chunk-preserved g c =
    let s = g.C.Chip.model c.args.chip.now in
    let x = c.args.index.now in
    let v = c.args.block in
    record {
      few = elim c.if-marked.branch [ then-marked+in_ok-copies w ↦ omega (arith, w.in_ok-copies.ensures.one) | else-marked w ↦ omega arith ];
      done = λ t cl takes.
          let d = c.loop-chunk.invariant.done t cl takes in
          let m = c.mark_load-marks.ensures s t (is-there s x v t cl) c.loop-chunk.chunk in
          elim c.if-marked.branch [
            | then-marked+in_ok-copies w ↦ rw (w.chip-is, w.index-is, w.copies-is) (copied-more s x v _ _ _ _ d t cl takes (sym m ∙ w.if-marked.true) w.new.result w.new.ensures _ _ _ w.in_ok-copies.ensures.played)
            | else-marked w ↦ rw (w.chip-is, w.index-is, w.copies-is) (pass s x v _ _ _ _ d (sym m ∙ w.if-marked.false))
          ];
    }

pub returns-in_err-copies-clause-played : goal.returns-in_err-copies-clause-played
returns-in_err-copies-clause-played g c = λ cl t takes.
    let s = g.C.Chip.model c.args.chip.now in
    let x = c.args.index.now in
    let v = c.args.block in
    let d = c.loop-chunk.invariant.done t cl takes in
    let m = c.mark_load-marks.ensures s t (is-there s x v t cl) c.loop-chunk.chunk in
    let p = err_from_is_err_and c.from_residual.result c.from_residual.ensures.1 in
    rw (p.1, p.2) (copied-broken s x v _ _ _ _ d t cl takes (sym m ∙ c.if-marked.true) c.new.result c.new.ensures _ _ _ c.in_err-copies.ensures.played)

pub returns-clause-played : goal.returns-clause-played
returns-clause-played g c = λ cl t takes.
    let s = g.C.Chip.model c.args.chip.now in
    let x = c.args.index.now in
    let v = c.args.block in
    let h = is-there s x v t cl in
    let l = c.loop-chunk-test.false in
    ended s x v _ _ _ _ (c.loop-chunk.invariant.done t cl takes) (omega (arith, block-length s v h, few_chunks s x t v h))
