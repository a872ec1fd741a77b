use Rattle.std.proofs.Common.{◌≡◌, ◌++◌, take, string_bytes}
use Rattle.replays.specs.Answers.{hexes_text}
use Rattle.replays.proofs.answers.hexes.Given as goal

abbrev pub invariant-loop-byte : goal.invariant-loop-byte
invariant-loop-byte l = string_bytes l.out ≡ string_bytes l.initial.out ++ hexes_text (take l.byte-index l.bytes)
