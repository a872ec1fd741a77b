-- What a row of a table tells of its chunk, and the chunk at its place. Assumes nothing.
use Rattle.std.proofs.Common.{◌≡◌, ℕ, ◌*◌, ◌/◌, ◌%◌, ◌<◌, ◌≤◌, List, length, get_or, Some, None, Option, sym, refl, ap, ◌∙◌, ⊎_elim, arith}
use Rattle.std.proofs.lemmas.Bool.{both_ways}
use Rattle.std.proofs.lemmas.Option.{none-some}
use Rattle.flash.specs.declared.chunks.Tag.{Tag}
use Rattle.flash.specs.declared.chunks.Place.{Place}
use Rattle.flash.specs.declared.chunks.Sizes.{Sizes}
use Rattle.flash.specs.declared.chunks.Record.{Record}
use Rattle.flash.specs.declared.chunks.Chunk.{Chunk}
use Rattle.flash.specs.declared.chunks.Chunk.TheVariants.{Blank, Damaged, Holds}
use Rattle.flash.specs.declared.chunks.Look.{Look}
use Rattle.flash.specs.declared.chunks.Look.TheVariants.{Blank as BlankL}
use Rattle.flash.specs.declared.faults.Fault.{Fault}
use Rattle.flash.specs.declared.faults.Fault.TheVariants.{Off, NoSuchPlace, NotBlank, SupplyFailed, NoRecord}
use Rattle.flash.specs.Chunks.{look_of, tag_in}
use Rattle.flash.specs.Model.{State, blocks_of}
use Rattle.flash.specs.Reads.{NotFetched}
use Rattle.scan.specs.Flat.{flat}
use Rattle.scan.specs.Tables.{TableOf, row_of, tag_at, PlaceOf}
use Rattle.scan.proofs.Rows.{row_block, row-chunk, row_is}
use Rattle.scan.proofs.Flat.{flat-long, flat-cell, looks_long, looks-at}

-- a table has a row for each chunk
pub rows_long : (s : State) (z : Sizes) (rows : List Look) → TableOf s z rows → length rows ≡ s.n * s.p
rows_long s z rows t = ap length t.mirror ∙ looks_long (flat (blocks_of s)) ∙ flat-long s

-- a row is what a look at its chunk tells
pub row-tells : (s : State) (z : Sizes) (rows : List Look) (k : ℕ) → TableOf s z rows → get_or rows k BlankL ≡ look_of (row_of s k)
row-tells s z rows k t = ap (λ (xs : List Look). get_or xs k BlankL) t.mirror ∙ looks-at (flat (blocks_of s)) k

-- the chunk of row k is chunk k % p of block k / p
pub row-cell : (s : State) (k : ℕ) → k < s.n * s.p → s.cells (k / s.p) (k % s.p) ≡ row_of s k
row-cell s k h =
    sym (flat-cell s (k / s.p) (k % s.p) (row_block s.n s.p k h) (row-chunk s.n s.p k h))
    ∙ ap (λ (z : ℕ). get_or (flat (blocks_of s)) z Blank) (row_is s.p k)

-- the record that a row tells of, or none
pub record Recorded (s : State) (k : ℕ) (g : Tag) : Type 0 where
  pub found : Record
  pub here : row_of s k ≡ Holds found
  pub tag : found.tag ≡ g

pub recorded : {s : State} {k : ℕ} {g : Tag} → tag_at s k ≡ Some g → Recorded s k g
recorded {s = s} {k = k} {g = g} e = by-chunk (row_of s k) refl
  where
    tells : (x : Chunk) → row_of s k ≡ x → tag_in (look_of x) ≡ Some g
    tells x p = ap (λ (y : Chunk). tag_in (look_of y)) (sym p) ∙ e

    by-chunk : (x : Chunk) → row_of s k ≡ x → Recorded s k g
    by-chunk Blank p = absurd (none-some g (tells Blank p))
    by-chunk Damaged p = absurd (none-some g (tells Damaged p))
    by-chunk (Holds r) p = record { found = r; here = p; tag = (let e = tells (Holds r) p in cc) }

pub recordless : (s : State) (k : ℕ) → tag_at s k ≡ None → (r : Record) → row_of s k ≡ Holds r → ⊥
recordless s k n r h = none-some r.tag (sym n ∙ ap (λ (x : Chunk). tag_in (look_of x)) h)

module _ {s : State} {z : Sizes} {rows : List Look} (t : TableOf s z rows) where
  -- a row has a place
  pub row_inside : (k : ℕ) → k < length rows → k < s.n * s.p
  row_inside k h = omega (arith, rows_long s z rows t)

  pub row_in : (k : ℕ) → k < length rows → k < z.blocks * z.chunks
  row_in k h = rw (t.sizes.blocks, t.sizes.chunks) (row_inside k h)

  pub row_place : (k : ℕ) (q : Place) → k < length rows → q.block ≡ k / z.chunks → q.chunk ≡ k % z.chunks → PlaceOf s k q
  row_place k q h eb ec =
      let l = row_inside k h in
      let b : q.block ≡ k / s.p = rw t.sizes.chunks at eb in
      let c : q.chunk ≡ k % s.p = rw t.sizes.chunks at ec in
      record {
        block = b;
        chunk = c;
        within = record { block = omega (arith, row_block s.n s.p k l); chunk = omega (arith, row-chunk s.n s.p k l) };
        here = ap (λ (a : ℕ). s.cells a q.chunk) b ∙ ap (s.cells (k / s.p)) c ∙ row-cell s k l;
      }

  -- the four numbers in a row are those of the chip's record
  pub row-tag : (k : ℕ) (l : Look) (o : Option Tag) → get_or rows k BlankL ≡ l → o ≡ tag_in l → tag_at s k ≡ o
  row-tag k l o e h = sym (h ∙ ap tag_in (sym e ∙ row-tells s z rows k t))

  -- a fetch of a record that is there, from a chip that is on, is not refused
  pub fetched : (k : ℕ) (q : Place) (r : Record) (f : Fault) → PlaceOf s k q → row_of s k ≡ Holds r → NotFetched s q f → ⊥
  fetched k q r Off p e n = both_ways s.on n t.on
  fetched k q r NoSuchPlace p e n = ⊎_elim (λ (x : s.n ≤ q.block). omega arith) (λ (x : s.p ≤ q.chunk). omega arith) n.1
  fetched k q r NotBlank p e n = n
  fetched k q r (SupplyFailed a) p e n = n
  fetched k q r NoRecord p e n = ⊎_elim (λ (x : s.cells q.block q.chunk ≡ Blank). absurd (let y = p.here in cc)) (λ (x : s.cells q.block q.chunk ≡ Damaged). absurd (let y = p.here in cc)) n.2
