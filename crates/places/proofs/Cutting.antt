-- The rows of a block, cut out of an index that tells of it. Assumes nothing.
use Rattle.std.proofs.Common.{◌≡◌, ℕ, zero, suc, ◌+◌, ◌-◌, ◌*◌, ◌<◌, ◌≤◌, List, [], ◌∷◌, ◌++◌, length, get_or, take, drop, vec_items, sym, refl, ap, ◌∙◌, mul-le-mul_right, arith, length-append}
use Rattle.std.proofs.lemmas.List.{drop-drop, drop_at, drop-take, take-take, take-append-le, take_all, get_or-drop, get_or-take}
use Rattle.flash.specs.declared.chunks.Chunk.{Chunk}
use Rattle.flash.specs.declared.chunks.Chunk.TheVariants.{Blank, Damaged, Holds}
use Rattle.flash.specs.declared.chunks.Look.{Look}
use Rattle.flash.specs.declared.chunks.Look.TheVariants.{Blank as blank_l}
use Rattle.flash.specs.Blocks.{chunk_at}
use Rattle.flash.specs.Chunks.{look_of}
use Rattle.rules.specs.Lists.{first_where}
use Rattle.rules.specs.Places.{Flash, load}
use Rattle.rules.specs.Records.{is_blank}
use Rattle.table.proofs.BareBlocks.{blocks-alike, table-mirrors}
use Rattle.scan.specs.declared.indexes.Index.{Index}
use Rattle.scan.specs.Flat.{flat, looks}
use Rattle.scan.specs.Indexes.{looks_in}
use Rattle.scan.proofs.Flat.{looks_long, looks-at}
use Rattle.places.specs.Places.{Told, blocks_in, rows_of, is_blank_l}

-- a block lies within the rows of all
pub block_fits : (b n p : ℕ) → b < n → b * p + p ≤ n * p
block_fits b n p h = let m : suc b * p ≤ n * p = mul-le-mul_right p (omega arith) in omega arith

looks-append : (xs ys : List Chunk) → looks (xs ++ ys) ≡ looks xs ++ looks ys
looks-append [] ys = refl
looks-append (x ∷ xs) ys = rw (looks-append xs ys) refl

-- the looks at one of the blocks
cut-flat : (p b : ℕ) (bs : List (List Chunk)) → b < length bs → ((k : ℕ) → k < length bs → length (get_or bs k []) ≡ p) → take p (drop (b * p) (looks (flat bs))) ≡ looks (get_or bs b [])
cut-flat p b [] h l = absurd (omega arith)
cut-flat p zero (x ∷ bs) h l = grind (arith, looks-append x (flat bs), looks_long x, l 0 (omega arith), take-append-le, take_all)
cut-flat p (suc b) (x ∷ bs) h l =
    let long : length (looks x) ≡ p = looks_long x ∙ l 0 (omega arith) in
    let e : suc b * p ≡ p + b * p = omega arith in
    rw e (rw (sym (drop-drop (b * p) p (looks (x ++ flat bs)))) (rw (looks-append x (flat bs)) (rw (drop_at (looks x) (looks (flat bs)) p long) (cut-flat p b bs (omega arith) (λ k g. l (suc k) (omega arith))))))

-- the front of the rows is enough
cut-front : (p b n : ℕ) (rows : List Look) → b < n → take p (drop (b * p) (take (n * p) rows)) ≡ take p (drop (b * p) rows)
cut-front p b n rows h =
    let m = block_fits b n p h in
    let e : n * p ≡ b * p + (n * p - b * p) = omega arith in
    ap (λ (k : ℕ). take p (drop (b * p) (take k rows))) e
    ∙ ap (take p) (drop-take (b * p) (n * p - b * p) rows)
    ∙ take-take p (n * p - b * p) (drop (b * p) rows) (omega arith)

blank-look : (c : Chunk) → is_blank_l (look_of c) ≡ is_blank c
blank-look Blank = refl
blank-look Damaged = refl
blank-look (Holds r) = refl

first-look : (cs : List Chunk) → first_where is_blank_l (looks cs) ≡ first_where is_blank cs
first-look [] = refl
first-look (c ∷ cs) = rw (blank-look c) (rw (first-look cs) refl)

flat-long : (p : ℕ) (bs : List (List Chunk)) → ((k : ℕ) → k < length bs → length (get_or bs k []) ≡ p) → length (flat bs) ≡ length bs * p
flat-long p [] l = omega arith
flat-long p (x ∷ bs) l = omega (arith, length-append x (flat bs), l 0 (omega arith), flat-long p bs (λ k h. l (suc k) (omega arith)))

module _ (f : Flash) (x : Index) (t : Told f x) where
  long-blocks : (k : ℕ) → k < length f.blocks → length (get_or f.blocks k []) ≡ x.sizes.chunks
  long-blocks k h = t.block_long k (omega (arith, t.blocks_long))

  pub rows_are : (b : ℕ) → b < x.sizes.blocks → rows_of x b ≡ looks (get_or f.blocks b [])
  rows_are b h =
      sym (cut-front x.sizes.chunks b x.sizes.blocks (vec_items x.rows) h)
      ∙ ap (λ (xs : List Look). take x.sizes.chunks (drop (b * x.sizes.chunks) xs)) t.mirror
      ∙ cut-flat x.sizes.chunks b f.blocks (omega (arith, t.blocks_long)) long-blocks

  pub first-known : (b : ℕ) → b < x.sizes.blocks → first_where is_blank_l (rows_of x b) ≡ first_where is_blank (get_or f.blocks b [])
  first-known b h = ap (first_where is_blank_l) (rows_are b h) ∙ first-look (get_or f.blocks b [])

  looks-long-is : length (looks_in x) ≡ x.sizes.blocks * x.sizes.chunks
  looks-long-is =
      ap length t.mirror ∙ looks_long (flat f.blocks) ∙ flat-long x.sizes.chunks f.blocks long-blocks ∙ ap (λ (n : ℕ). n * x.sizes.chunks) t.blocks_long

  each-look : (b c : ℕ) → b < x.sizes.blocks → c < x.sizes.chunks → get_or (looks_in x) (b * x.sizes.chunks + c) blank_l ≡ look_of (chunk_at f.blocks b c)
  each-look b c hb hc =
      let p = x.sizes.chunks in
      sym (get_or-drop (b * p) (looks_in x) c blank_l)
      ∙ sym (get_or-take p (drop (b * p) (looks_in x)) c blank_l hc)
      ∙ ap (λ (xs : List Look). get_or (take p (drop (b * p) xs)) c blank_l) t.mirror
      ∙ ap (λ (xs : List Look). get_or xs c blank_l) (cut-flat p b f.blocks (omega (arith, t.blocks_long)) long-blocks)
      ∙ looks-at (get_or f.blocks b []) c

  -- loads by the index are loads by the contents
  load-known : (b : ℕ) → load (blocks_in x) b ≡ load f.blocks b
  load-known b =
      ap (λ (bs : List (List Chunk)). load bs b) (table-mirrors x.sizes.blocks x.sizes.chunks f.blocks (looks_in x) (record { blocks_long = t.blocks_long; block_long = t.block_long; looks_long = looks-long-is; each = each-look })).0
      ∙ (blocks-alike f.blocks).load_same b

  pub loads_known : ◌≡◌ {A = ℕ → ℕ} (load (blocks_in x)) (load f.blocks)
  loads_known = λ i b. load-known b i
