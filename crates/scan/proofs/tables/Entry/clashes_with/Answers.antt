use Rattle.std.proofs.Common.{arith}
use Rattle.std.proofs.lemmas.Bool.Decides.{nat_tests}
use Rattle.std.proofs.lemmas.Bool.Decides.{same_from_decides}
use Rattle.std.proofs.lemmas.Slice.Eq.{bytes_eq-Decides}
use Rattle.scan.proofs.Telling.{recorded}
use Rattle.scan.proofs.Clashing.{clash-is, clash-told}
use Rattle.scan.proofs.tables.Entry.clashes_with.Goals as goal

pub returns-then-self-other : goal.returns-then-self-other
returns-then-self-other g c =
    let h = (clash-told (recorded c.args.self.now.told) (recorded c.args.other.now.told)).1 in grind (arith, nat_tests)

pub returns-then-ne : goal.returns-then-ne
returns-then-ne g c =
    let h = (clash-told (recorded c.args.self.now.told) (recorded c.args.other.now.told)).1 in grind (arith, nat_tests)

pub returns-in_ok-same_data : goal.returns-in_ok-same_data
returns-in_ok-same_data g c =
    let a = recorded c.args.self.now.told in
    let b = recorded c.args.other.now.told in
    let d = same_from_decides _ _ (c.in_ok-same_data.ensures a.found b.found a.here b.here) (bytes_eq-Decides a.found.bytes b.found.bytes) in
    let h = clash-is a.here b.here a.tag b.tag in grind (arith, nat_tests)
