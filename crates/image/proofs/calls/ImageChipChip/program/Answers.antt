use Rattle.std.proofs.Common.{◌≡◌, ℕ, true, false, vec_items, refl}
use Rattle.std.specs.declared.ops.Range.{Range}
use Rattle.image.proofs.States.{to_rest}
use Rattle.image.proofs.Rests.{all-blank, blank-all}
use Rattle.image.proofs.Changes.{program-done, not-blank}
use Rattle.image.proofs.calls.ImageChipChip.program.Goals as goal

pub returns-then-not-all_blank-clause-rules : goal.returns-then-not-all_blank-clause-rules
returns-then-not-all_blank-clause-rules c =
    let xs = vec_items c.args.self.now.bytes in
    let i : Range ℕ = record { start = c.in_ok-start.start; end = c.rest-end.result.end } in
    let f = to_rest xs c.args.at i.start i.end c.head.result c.in_ok-start.ensures c.head.ensures c.rest-end.ensures.end in
    let k = c.as_chunks.ensures in
    let n = not-blank xs c.args.at i f
    (λ b. let e : false ≡ true = c.if-not-all_blank.ensures.1 (blank-all xs c.deref.result.now c.args.at i c.as_chunks.result.0.now f c.deref.ensures.value k.front k.front_len b) in cc) in
    (n.0, n.1, n.2, refl)

pub returns-clause-rules : goal.returns-clause-rules
returns-clause-rules c =
    let v = c.args.self.now.bytes in
    let q = c.args.at in
    let i : Range ℕ = record { start = c.in_ok-start.start; end = c.rest-end.result.end } in
    let f = to_rest (vec_items v) q i.start i.end c.head.result c.in_ok-start.ensures c.head.ensures c.rest-end.ensures.end in
    let k = c.as_chunks.ensures in
    let b = all-blank (vec_items v) c.deref.result.now q i c.as_chunks.result.0.now f c.deref.ensures.value k.front k.front_len (c.if-not-all_blank.ensures.0 refl) in
    program-done v c.deref_mut.result.now c.write.new.chunk q i c.args.record.now f b c.write.ensures.whole c.deref_mut.ensures.value c.write.ensures.value
