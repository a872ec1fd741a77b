-- The rows of a block, and how it stands. Assumes nothing.
use Rattle.std.proofs.Common.{◌≡◌, ℕ, ◌+◌, ◌-◌, ◌*◌, ◌<◌, ◌≤◌, List, [], ◌∷◌, length, get_or, take, drop, Bool, cond, Decides, sym, refl, ap, ◌∙◌, arith, mul-le-mul_right, length-take, length-drop, get_or-take, get_or-drop}
use Rattle.std.specs.List.{All}
use Rattle.std.proofs.lemmas.List.{ext_get_or}
use Rattle.std.proofs.lemmas.List.Elements.{All-nil, All-cons, All-head, All-tail}
use Rattle.std.proofs.lemmas.Bool.{false≢true}
use Rattle.std.proofs.lemmas.Bool.Decides.{same_from_decides}
use Rattle.flash.specs.declared.chunks.Chunk.{Chunk}
use Rattle.flash.specs.declared.chunks.Chunk.TheVariants.{Blank, Damaged, Holds}
use Rattle.flash.specs.declared.chunks.Look.{Look}
use Rattle.flash.specs.declared.chunks.Look.TheVariants.{Blank as BlankL, Damaged as DamagedL, Record as RecordL}
use Rattle.flash.specs.declared.chunks.Sizes.{Sizes}
use Rattle.flash.specs.Chunks.{look_of}
use Rattle.flash.specs.Model.{State, blocks_of}
use Rattle.flash.proofs.Views.{block-length, cell_at}
use Rattle.rules.specs.Mounting.{blank_block, mounted_block}
use Rattle.rules.specs.declared.standings.Standing.TheVariants.{Blank as BlankS, Closed}
use Rattle.scan.specs.Flat.{looks}
use Rattle.scan.specs.Tables.{TableOf}
use Rattle.scan.proofs.Flat.{flat-cell, looks_long, looks-at}
use Rattle.scan.proofs.Telling.{rows_long, row-tells}

module _ {s : State} {z : Sizes} {rows : List Look} (t : TableOf s z rows) (b : ℕ) (h : b < z.blocks) where
  inside : b < s.n
  inside = (let e = t.sizes.blocks in omega arith)

  pub block_inside : b * z.chunks + z.chunks ≤ length rows
  block_inside =
      let l : (b + 1) * s.p ≤ s.n * s.p = mul-le-mul_right s.p (let i = inside in omega arith) in
      let e : b * z.chunks + z.chunks ≡ b * s.p + s.p = ap (λ (p : ℕ). b * p + p) t.sizes.chunks in
      omega (arith, rows_long s z rows t)

  block-rows : take (b * z.chunks + z.chunks - b * z.chunks) (drop (b * z.chunks) rows) ≡ looks (get_or (blocks_of s) b [])
  block-rows =
      let n = b * z.chunks + z.chunks - b * z.chunks in
      let cs = get_or (blocks_of s) b [] in
      let p : n ≡ s.p = (let e = t.sizes.chunks in omega arith) in
      let lr : length (take n (drop (b * z.chunks) rows)) ≡ s.p = omega (arith, block_inside, length-take {A = Look}, length-drop {A = Look}) in
      let lc : length (looks cs) ≡ s.p = looks_long cs ∙ block-length s b inside in
      ext_get_or BlankL _ (looks cs) (lr ∙ sym lc)
      (λ i k.
      let c : i < s.p = omega arith in
      get_or-take n (drop (b * z.chunks) rows) i BlankL (omega arith) ∙ get_or-drop (b * z.chunks) rows i BlankL
      ∙ ap (λ (q : ℕ). get_or rows (b * q + i) BlankL) t.sizes.chunks ∙ row-tells s z rows (b * s.p + i) t
      ∙ ap look_of (flat-cell s b i inside c ∙ sym (cell_at s b i inside c)) ∙ sym (looks-at cs i))

abbrev IsBlank : Look → Type 0
IsBlank l = l ≡ BlankL

blank-decides : (cs : List Chunk) → Decides (blank_block cs) (All IsBlank (looks cs))
blank-decides [] = (λ _. All-nil IsBlank, λ _. refl)
blank-decides (Blank ∷ cs) = (let d = blank-decides cs in (λ e. All-cons IsBlank BlankL (looks cs) refl (d.0 e), λ a. d.1 (All-tail IsBlank BlankL (looks cs) a)))
blank-decides (Damaged ∷ cs) = (λ e. absurd (false≢true e), λ a. absurd (let e = All-head IsBlank DamagedL (looks cs) a in cc))
blank-decides (Holds r ∷ cs) = (λ e. absurd (false≢true e), λ a. absurd (let e = All-head IsBlank (RecordL r.tag) (looks cs) a in cc))

blank-is : (cs : List Chunk) (y : Bool) → Decides y (All IsBlank (looks cs)) → y ≡ blank_block cs
blank-is cs y d = same_from_decides y (blank_block cs) d (blank-decides cs)

-- so mount leaves the block as its rows tell
pub stands_so : {s : State} {z : Sizes} {rows : List Look} (t : TableOf s z rows) (b : ℕ) → b < z.blocks → (y : Bool) → Decides y (All IsBlank (take (b * z.chunks + z.chunks - b * z.chunks) (drop (b * z.chunks) rows)))
    → cond y BlankS Closed ≡ mounted_block (get_or (blocks_of s) b [])
stands_so {s = s} t b h y d = ap (λ (x : Bool). cond x BlankS Closed) (blank-is (get_or (blocks_of s) b []) y (rw (block-rows t b h) at d))
