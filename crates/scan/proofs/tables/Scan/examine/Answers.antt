use Rattle.std.proofs.lemmas.Result.{err_from_is_err_and}
use Rattle.names.specs.Names.{entries_of}
use Rattle.scan.proofs.Examining.{passed, broken-rule, serial-clash, same-names, too-large, no-way, accepted}
use Rattle.scan.proofs.tables.Scan.examine.Goals as goal

pub returns-in_err-check_rows : goal.returns-in_err-check_rows
returns-in_err-check_rows g c =
    let x = c.args.self.now in
    let p = err_from_is_err_and c.from_residual.result c.from_residual.ensures.1 in
    rw (p.1, p.2) (broken-rule x.table x.fit (entries_of c.check_rows.new.names) c.in_err-check_rows.field-0.0 c.in_err-check_rows.ensures)

pub returns-in-Some : goal.returns-in-Some
returns-in-Some g c =
    let x = c.args.self.now in
    serial-clash x.table x.fit c.in_ok-check_rows.ensures c.in-Some.at (rw c.in-Some.is at c.in_ok-at.ensures)

pub returns-then-two_alike : goal.returns-then-two_alike
returns-then-two_alike g c =
    let x = c.args.self.now in
    let p = passed x.table x.fit x.whole c.in_ok-check_rows.ensures (rw c.in_default.is at c.in_ok-at.ensures) in
    same-names p c.if-two_alike.ensures.files

pub returns-then-too_large : goal.returns-then-too_large
returns-then-too_large g c =
    let x = c.args.self.now in
    let p = passed x.table x.fit x.whole c.in_ok-check_rows.ensures (rw c.in_default.is at c.in_ok-at.ensures) in
    too-large p c.if-two_alike.ensures.files c.if-too_large.ensures

pub returns-then-not-some_idle : goal.returns-then-not-some_idle
returns-then-not-some_idle g c =
    let x = c.args.self.now in
    let p = passed x.table x.fit x.whole c.in_ok-check_rows.ensures (rw c.in_default.is at c.in_ok-at.ensures) in
    no-way p c.if-two_alike.ensures.files c.if-too_large.ensures c.if-not-some_idle.ensures

pub returns : goal.returns
returns g c =
    let x = c.args.self.now in
    let p = passed x.table x.fit x.whole c.in_ok-check_rows.ensures (rw c.in_default.is at c.in_ok-at.ensures) in
    accepted p c.if-two_alike.ensures.files c.if-too_large.ensures c.if-not-some_idle.ensures
