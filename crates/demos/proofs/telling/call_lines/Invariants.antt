use Rattle.std.proofs.Common.{◌≡◌, ◌++◌, map, string_bytes}
use Rattle.std.specs.Slice.Iter.{iter_rest}
use Rattle.store.specs.Making.{call_told}
use Rattle.demos.specs.Telling.{call_lines}
use Rattle.demos.proofs.telling.call_lines.Given as goal

-- with the lines to come, the text is the whole
abbrev pub invariant-loop-call : goal.invariant-loop-call
invariant-loop-call l =
    string_bytes l.out ++ call_lines (map call_told (iter_rest l.call-iterator.a)) (iter_rest l.call-iterator.b) ≡ string_bytes l.initial.out ++ call_lines (map call_told l.calls) l.answers
