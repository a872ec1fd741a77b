use Rattle.std.proofs.Common.{◌≡◌, ◌++◌, take, string_bytes}
use Rattle.words.specs.Usage.{usages_text}
use Rattle.words.proofs.usage.usages.Given as goal

abbrev pub invariant-loop-command : goal.invariant-loop-command
invariant-loop-command l = string_bytes l.out ≡ string_bytes l.initial.out ++ usages_text (take l.command-index l.commands)
