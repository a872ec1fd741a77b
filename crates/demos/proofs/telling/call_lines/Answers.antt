use Rattle.std.proofs.Common.{◌++◌, List, ℕ, string_bytes, sym, ap, ◌∙◌}
use Rattle.std.proofs.lemmas.List.{append-nil}
use Rattle.std.proofs.lemmas.Slice.Zip.{either_empty_from_Zip}
use Rattle.demos.proofs.Lines.{no_more}
use Rattle.demos.proofs.telling.call_lines.Goals as goal

pub returns : goal.returns
returns c =
    let text = string_bytes c.loop-call.out in
    let none = no_more _ _ (either_empty_from_Zip c.loop-call.call-iterator c.next.new.self c.next.result c.in-None.is c.next.ensures.steps) in
    sym (append-nil text) ∙ ap (λ (more : List ℕ). text ++ more) (sym none) ∙ c.loop-call.invariant
