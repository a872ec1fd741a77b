-- An index that tells of a chip tells of it after one chunk is put or one block erased, and that is noted. Assumes nothing.
use Rattle.std.proofs.Common.{◌≡◌, ◌≢◌, ℕ, suc, ◌+◌, ◌-◌, ◌*◌, ◌/◌, ◌%◌, ◌<◌, ◌≤◌, ◌⊎◌, List, ◌++◌, length, get_or, set, take, drop, replicate, vec_items, sym, refl, ap, ◌∙◌, inl, inr, ⊎_elim, arith, mul-le-mul_right, length-take, get_or-take}
use lib.Arith.{digits_lt, digits_div, digits_mod}
use Rattle.std.proofs.lemmas.Bool.{cases_eq, cases_lt}
use Rattle.std.proofs.lemmas.Grind.{common_steps}
use Rattle.std.proofs.lemmas.List.{get_or-set_same, get_or-set_other, length-set}
use Rattle.flash.specs.declared.chunks.Chunk.TheVariants.{Holds}
use Rattle.flash.specs.declared.chunks.Look.{Look}
use Rattle.flash.specs.declared.chunks.Look.TheVariants.{Blank as blank_l, Record as record_l}
use Rattle.flash.specs.declared.chunks.Place.{Place}
use Rattle.flash.specs.declared.chunks.Record.{Record}
use Rattle.flash.specs.Chunks.{look_of}
use Rattle.flash.specs.Model.{State, blocks_of}
use Rattle.flash.specs.Writes.{Put, BlockChanged, IsBlank}
use Rattle.scan.specs.declared.indexes.Index.{Index}
use Rattle.scan.specs.Flat.{looks_of}
use Rattle.scan.specs.Indexes.{looks_in}
use Rattle.scan.specs.Tables.{TableOf}
use Rattle.scan.proofs.Flat.{rows_are}
use Rattle.scan.proofs.Rows.{row_block, row-chunk, row_is}
use Rattle.scan.proofs.Telling.{rows_long, row-tells, row-cell}
use Rattle.writing.specs.Notes.{ProgramNoted, EraseNoted}
use Rattle.writing.specs.Writing.{Tells}

-- p rows from row i on are blank, the others as they were
blank-inside : (rows : List Look) (i p k : ℕ) → i + p ≤ length rows → i ≤ k → k < i + p → get_or (take i rows ++ (replicate p blank_l ++ drop (i + p) rows)) k blank_l ≡ blank_l
blank-inside rows i p k h a b = grind (arith, common_steps)

blank-outside : (rows : List Look) (i p k : ℕ) → i + p ≤ length rows → (k < i) ⊎ (i + p ≤ k) → get_or (take i rows ++ (replicate p blank_l ++ drop (i + p) rows)) k blank_l ≡ get_or rows k blank_l
blank-outside rows i p k h (inl a) = grind (arith, common_steps)
blank-outside rows i p k h (inr a) = grind (arith, common_steps)

-- the rows of other blocks
row-outside : (p b k : ℕ) → k / p ≢ b → (k < b * p) ⊎ (b * p + p ≤ k)
row-outside p b k d = ⊎_elim
    (λ (l : k < b * p). inl l)
    (λ (l : b * p ≤ k). ⊎_elim
    (λ (m : k < b * p + p). absurd (d (ap (λ (z : ℕ). z / p) (let e : k ≡ b * p + (k - b * p) = omega arith in e) ∙ digits_div b (let h : k - b * p < p = omega arith in h))))
    (λ (m : b * p + p ≤ k). inr m)
    (cases_lt k (b * p + p)))
    (cases_lt k (b * p))

module _ {s : State} {x : Index} (t : Tells s x) where
  table : TableOf s x.sizes (looks_in x)
  table = record { on = t.on; sizes = record { blocks = t.blocks; chunks = t.chunks }; mirror = t.mirror }

  rows-long : s.n * s.p ≤ length (vec_items x.rows)
  rows-long = (let l = rows_long s x.sizes (looks_in x) table in omega (arith, length-take {A = Look}))

  front : (y : Index) → y.sizes ≡ x.sizes → looks_in y ≡ take (s.n * s.p) (vec_items y.rows)
  front y e = rw (e, t.blocks, t.chunks) refl

  -- each row is what a look at its chunk told
  row-told : (k : ℕ) → k < s.n * s.p → get_or (vec_items x.rows) k blank_l ≡ look_of (s.cells (k / s.p) (k % s.p))
  row-told k h =
      sym (get_or-take (s.n * s.p) (vec_items x.rows) k blank_l h) ∙ ap (λ (xs : List Look). get_or xs k blank_l) (sym (front x refl))
      ∙ row-tells s x.sizes (looks_in x) k table ∙ ap look_of (sym (row-cell s k h))

  -- the index tells of the chip where its rows do
  all-told : (y : Index) (u : State) → y.sizes ≡ x.sizes → u.n ≡ s.n → u.p ≡ s.p → length (vec_items y.rows) ≡ length (vec_items x.rows)
      → ((k : ℕ) → k < s.n * s.p → get_or (vec_items y.rows) k blank_l ≡ look_of (u.cells (k / s.p) (k % s.p))) → looks_in y ≡ looks_of (blocks_of u)
  all-told y u e en ep l each =
      let long : length (take (s.n * s.p) (vec_items y.rows)) ≡ s.n * s.p = (let r = rows-long in omega (arith, length-take {A = Look})) in
      front y e
      ∙ rows_are u (take (s.n * s.p) (vec_items y.rows)) (rw (en, ep) long) (rw (en, ep) (λ k h. get_or-take (s.n * s.p) (vec_items y.rows) k blank_l h ∙ each k h))

  pub program-told : (y : Index) (u : State) (q : Place) (r : Record) → q.block < s.n → q.chunk < s.p → Put s q.block q.chunk (Holds r) u → ProgramNoted x q r.tag y → looks_in y ≡ looks_of (blocks_of u)
  program-told y u q r hb hc p n =
      let row = q.block * s.p + q.chunk in
      let rows = vec_items x.rows in
      let inside : row < s.n * s.p = digits_lt hb hc in
      let now : vec_items y.rows ≡ set rows row (record_l r.tag) = n.rows ∙ ap (λ (z : ℕ). set rows (q.block * z + q.chunk) (record_l r.tag)) t.chunks in
      let there : u.cells (row / s.p) (row % s.p) ≡ Holds r = ap (λ (z : ℕ). u.cells z (row % s.p)) (digits_div q.block hc) ∙ ap (u.cells q.block) (digits_mod q.block hc) ∙ p.here in
      all-told y u n.same_sizes p.n_same p.p_same (ap length now ∙ length-set rows row (record_l r.tag))
      (λ k h. ap (λ (xs : List Look). get_or xs k blank_l) now ∙ ⊎_elim
      (λ (e : k ≡ row). rw e (get_or-set_same rows row (record_l r.tag) blank_l (omega (arith, rows-long)) ∙ sym (ap look_of there)))
      (λ (e : k ≢ row). get_or-set_other rows row k (record_l r.tag) blank_l e ∙ row-told k h
      ∙ sym (ap look_of (p.there (k / s.p) (k % s.p) (row_block s.n s.p k h) (row-chunk s.n s.p k h) (⊎_elim
      (λ (d : k / s.p ≡ q.block). inr (λ (m : k % s.p ≡ q.chunk). e (sym (row_is s.p k) ∙ ap (λ (z : ℕ). z * s.p + k % s.p) d ∙ ap (λ (z : ℕ). q.block * s.p + z) m)))
      (λ (d : k / s.p ≢ q.block). inl d)
      (cases_eq (k / s.p) q.block)))))
      (cases_eq k row))

  pub erase-told : (y : Index) (u : State) (b : ℕ) → b < s.n → BlockChanged IsBlank s b u → EraseNoted x b y → looks_in y ≡ looks_of (blocks_of u)
  erase-told y u b hb p n =
      let i = b * s.p in
      let rows = vec_items x.rows in
      let rest : i + s.p ≤ s.n * s.p = (let m : suc b * s.p ≤ s.n * s.p = mul-le-mul_right s.p (omega arith) in omega arith) in
      let room : i + s.p ≤ length rows = omega (arith, rows-long) in
      let now : vec_items y.rows ≡ take i rows ++ (replicate s.p blank_l ++ drop (i + s.p) rows) =
      n.rows ∙ ap (λ (z : ℕ). take (b * z) rows ++ (replicate z blank_l ++ drop (b * z + z) rows)) t.chunks in
      let long : length (take i rows ++ (replicate s.p blank_l ++ drop (i + s.p) rows)) ≡ length rows = grind (arith, common_steps) in
      all-told y u n.same_sizes p.n_same p.p_same (ap length now ∙ long)
      (λ k h. ap (λ (xs : List Look). get_or xs k blank_l) now ∙ (let w = row_is s.p k in let v = row-chunk s.n s.p k h in ⊎_elim
      (λ (d : k / s.p ≡ b). let e : i ≡ (k / s.p) * s.p = ap (λ (z : ℕ). z * s.p) (sym d) in
      blank-inside rows i s.p k room (omega arith) (omega arith) ∙ sym (ap look_of (ap (λ (z : ℕ). u.cells z (k % s.p)) d ∙ p.here (k % s.p) v)))
      (λ (d : k / s.p ≢ b). blank-outside rows i s.p k room (row-outside s.p b k d) ∙ row-told k h ∙ sym (ap look_of (p.there (k / s.p) (k % s.p) (row_block s.n s.p k h) v d)))
      (cases_eq (k / s.p) b)))
