use Rattle.std.proofs.Common.{◌≡◌, ◌↔◌, IsTrue, ℕ, ◌+◌, ◌-◌, ◌<◌, length, take, drop, get_or, rules, arith, ap, sym, ◌∙◌}
use Rattle.std.proofs.lemmas.List.{places, length-take-le, length-drop}
use Rattle.flash.specs.declared.chunks.Chunk.TheVariants.{Blank}
use Rattle.sparse.specs.Sparse.{state_of}
use Rattle.sparse.proofs.chips.SparseChip.is_blank_from.Goals as goal

pub returns : goal.returns
returns c =
    let s = state_of c.args.self.now in
    let q = c.args.at in
    let zs = c.deref.result.now in
    let rest = take (length zs - q.chunk) (drop q.chunk zs) in
    let whole : length zs ≡ s.p = search rules in
    let long : length rest ≡ s.p - q.chunk = length-take-le (length zs - q.chunk) (drop q.chunk zs) (omega (arith, length-drop q.chunk zs)) ∙ omega (arith, whole) in
    let kept : (k : ℕ) → s.cells q.block k ≡ get_or zs k Blank = λ k. search rules in
    let all : IsTrue c.all.result ↔ ((j : ℕ) → j < length rest → get_or rest j Blank ≡ Blank) = search rules in
    let read : (j : ℕ) → j < length rest → get_or rest j Blank ≡ get_or zs (q.chunk + j) Blank = λ j h. search (rules, places) in (
      λ t k l h. let j = k - q.chunk in let e : k ≡ q.chunk + j = omega arith in let m : j < length rest = omega arith in
          ap (s.cells q.block) e ∙ kept (q.chunk + j) ∙ sym (read j m) ∙ all.0 t j m,
      λ b. all.1 (λ j h. read j h ∙ sym (kept (q.chunk + j)) ∙ b (q.chunk + j) (omega arith) (omega (arith, long))),
    )
