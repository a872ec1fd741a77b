-- What is left to read gives the whole number.
use Rattle.std.proofs.Common.{◌≡◌, Some, drop}
use Rattle.scripts.specs.Numbers.{follow}
use Rattle.scripts.proofs.numbers.read.Given as goal

abbrev pub invariant-loop-byte : goal.invariant-loop-byte
invariant-loop-byte l = follow l.base (Some 0) l.digits ≡ follow l.base (Some l.number) (drop l.byte-index l.digits)
