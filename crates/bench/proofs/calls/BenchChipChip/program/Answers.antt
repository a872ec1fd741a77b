use Rattle.std.proofs.Common.{◌≡◌, true, false, refl, rules}
use Rattle.bench.proofs.Acting.{blank-rest, rest-blank, program-acts, programmed}
use Rattle.bench.proofs.calls.BenchChipChip.program.Goals as goal

pub returns-then-not-all_blank-clause-rules : goal.returns-then-not-all_blank-clause-rules
returns-then-not-all_blank-clause-rules c =
    let w = c.rows_from-start.ensures in
    (w.ready, w.within, λ b. let e : false ≡ true = c.if-not-all_blank.ensures.1 (rest-blank c.args.self.now c.args.at c.rows_from-start.result c.deref.result.now w c.deref.ensures.value b) in cc, refl)

pub returns : goal.returns
returns c =
    let s = c.args.self.now in
    let t = c.count.new.self in
    let q = c.args.at in
    let i = c.rows_from-start.result in
    let r = c.args.record.now in
    let w = c.rows_from-start.ensures in
    let b = blank-rest s q i c.deref.result.now w c.deref.ensures.value (c.if-not-all_blank.ensures.0 refl) in
    let a = program-acts s _ t q i r c.filled.result w b c.filled.ensures refl c.count.ensures.after (search rules) in
    record { rules = programmed s t c.args.purpose q i r c.at.result c.count.result w b c.at.ensures c.count.ensures.told a; plan = search rules }
