-- A block that is made anew, chunk by chunk. Assumes nothing.
use Rattle.std.proofs.Common.{◌≡◌, ℕ, ◌+◌, ◌-◌, ◌*◌, ◌<◌, ◌≤◌, List, length, get_or, take, drop, set, sym, ap, ◌∙◌, subst, vec_items, vec_len, Vec, ⊎_elim, arith, rules}
use Rattle.std.specs.Vec.{with_items}
use Rattle.std.specs.declared.ops.Range.{Range}
use borrow.Rule.Slice.PartMut.{put_mid}
use Rattle.std.proofs.Math.Nat.{le_refl}
use Rattle.std.proofs.lemmas.Nat.{row_fits}
use Rattle.std.proofs.lemmas.Grind.{elements}
use Rattle.std.proofs.lemmas.List.{places, length-take-le, length-drop, get_or-set_same, get_or-set_other, with_items_is}
use Rattle.std.proofs.lemmas.Bool.{cases_eq}
use Rattle.flash.specs.declared.chunks.Chunk.{Chunk}
use Rattle.flash.specs.declared.chunks.Chunk.TheVariants.{Blank}
use Rattle.bench.specs.Acts.{Remade}

-- the first c of these chunks are what f makes of them
pub record Begun (f : ℕ → Chunk → Chunk) (c : ℕ) (xs ys : List Chunk) : Type 0 where
  pub here : (j : ℕ) → j < c → get_or ys j Blank ≡ f j (get_or xs j Blank)
  pub there : (j : ℕ) → c ≤ j → get_or ys j Blank ≡ get_or xs j Blank

-- one chunk more
pub begun_more : (f : ℕ → Chunk → Chunk) (c : ℕ) (xs ys : List Chunk) (v : Chunk) → c < length ys → Begun f c xs ys → v ≡ f c (get_or ys c Blank) → Begun f (c + 1) xs (set ys c v)
begun_more f c xs ys v h b e = record {
  here = λ j l. ⊎_elim
      (λ (x : j ≡ c). ap (λ (z : ℕ). get_or (set ys c v) z Blank) x ∙ get_or-set_same ys c v Blank h ∙ e ∙ ap (f c) (b.there c (let l : c ≤ c = omega arith in l)) ∙ ap (λ (z : ℕ). f z (get_or xs z Blank)) (sym x))
      (λ x. get_or-set_other ys c j v Blank x ∙ b.here j (omega arith))
      (cases_eq j c);
  there = λ j l. grind (arith, elements, b.there j);
}

-- all of them, in the rows of block b
remade-part : (f : ℕ → Chunk → Chunk) (p b a k n : ℕ) (xs ys : List Chunk) → a ≡ b * p → k ≡ p → p ≤ n → b * p + p ≤ length xs → length ys ≡ p → Begun f n (take k (drop a xs)) ys
    → Remade f p b p xs (put_mid a k xs ys)
remade-part f p b a k n xs ys ea ek hn h l m = record {
  count_same = search (rules, places);
  here = λ j g. search (rules, places) ∙ m.here j (omega arith) ∙ ap (f j) (search (rules, places));
  there = λ i d. search (rules, places);
}

pub remade : {Z : Type 0} (f : ℕ → Chunk → Chunk) (p b m n : ℕ) (r : Range ℕ) (v : Vec Chunk Z) (xs ys : List Chunk) → r ≡ record { start = b * p; end = b * p + p } → xs ≡ vec_items v → b < m → m * p ≤ vec_len v
    → length (take (r.end - r.start) (drop r.start xs)) ≤ n → length ys ≡ length (take (r.end - r.start) (drop r.start xs)) → Begun f n (take (r.end - r.start) (drop r.start xs)) ys
    → Remade f p b p (vec_items v) (vec_items (with_items v (put_mid r.start (r.end - r.start) xs ys)))
remade f p b m n r v xs ys er e hb hm hn l g =
    let ea : r.start ≡ b * p = ap (λ (i : Range ℕ). i.start) er in
    let ee : r.end ≡ b * p + p = ap (λ (i : Range ℕ). i.end) er in
    let ek : r.end - r.start ≡ p = omega arith in
    let h : b * p + p ≤ length xs = omega (arith, row_fits b p m p hb (le_refl p), ap length e, v.ok.0) in
    let part : length (take (r.end - r.start) (drop r.start xs)) ≡ p = length-take-le (r.end - r.start) (drop r.start xs) (omega (arith, length-drop r.start xs)) ∙ ek in
    let ws = put_mid r.start (r.end - r.start) xs ys in
    let w = remade-part f p b r.start (r.end - r.start) n xs ys ea ek (omega arith) h (l ∙ part) g in
    let P : List Chunk → Type 0 = λ zs. Remade f p b p zs (vec_items (with_items v ws)) in
    subst P e (subst (Remade f p b p xs) (sym (with_items_is v ws (w.count_same ∙ ap length e ∙ sym v.ok.0))) w)
