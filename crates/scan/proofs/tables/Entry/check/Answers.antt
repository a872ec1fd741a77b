use Rattle.std.proofs.Common.{refl}
use Rattle.scan.proofs.Keeping.{kept}
use Rattle.scan.proofs.tables.Entry.check.Goals as goal

pub returns-then-not-keeps_rules : goal.returns-then-not-keeps_rules
returns-then-not-keeps_rules g c =
    let f = c.in_ok-first.ensures in
    let p = c.place.ensures in
    record { place = c.place.result; tells = refl; block = p.block; chunk = p.chunk; found = f.found; here = f.here; breaks = kept f _ c.if-not-keeps_rules.ensures f.found f.here }

pub returns : goal.returns
returns g c = (kept c.in_ok-first.ensures _ c.if-not-keeps_rules.ensures, c.in_ok-first.ensures.named)
