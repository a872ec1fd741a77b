-- A fetch of a record that stands in a row of the table. Assumes nothing.
use Rattle.std.proofs.Common.{◌≡◌, ℕ, ◌/◌, ◌%◌, ◌≤◌, true, List, take, Some, sym, refl, ap, ◌∙◌, ⊎_elim, arith}
use Rattle.std.proofs.lemmas.Bool.{both_ways}
use Rattle.flash.specs.declared.chunks.Chunk.{Chunk}
use Rattle.flash.specs.declared.chunks.Chunk.TheVariants.{Blank, Damaged, Holds}
use Rattle.flash.specs.declared.chunks.Look.TheVariants.{Record as record_l}
use Rattle.flash.specs.declared.chunks.Place.{Place}
use Rattle.flash.specs.declared.chunks.Record.{Record}
use Rattle.flash.specs.declared.chunks.Sizes.{Sizes}
use Rattle.flash.specs.declared.chunks.Tag.{Tag}
use Rattle.flash.specs.declared.faults.Fault.{Fault}
use Rattle.flash.specs.declared.faults.Fault.TheVariants.{Off, NoSuchPlace, NotBlank, SupplyFailed, NoRecord}
use Rattle.flash.specs.Chunks.{look_of}
use Rattle.flash.specs.Model.{State}
use Rattle.flash.specs.Reads.{Sized, FetchDone, NotFetched}
use Rattle.tags.specs.declared.finds.Found.{Found}
use Rattle.questions.specs.Reads.{counted, counted_at, Stands}
use Rattle.scan.specs.Tables.{row_of}
use Rattle.scan.proofs.Rows.{row_block, row-chunk}
use Rattle.scan.proofs.Telling.{row-cell}

-- a look that tells of a record looks at a chunk that holds it
not-blank : (t : Tag) → look_of Blank ≡ record_l t → ⊥
not-blank t e = cc

not-damaged : (t : Tag) → look_of Damaged ≡ record_l t → ⊥
not-damaged t e = cc

pub held : (x : Chunk) (t : Tag) → look_of x ≡ record_l t → (r : Record) × (x ≡ Holds r) × (r.tag ≡ t)
held Blank t e = absurd (not-blank t e)
held Damaged t e = absurd (not-damaged t e)
held (Holds r) t e = (r, refl, cc)

module _ (s : State) (z : Sizes) (q : Place) (f : Found) (sized : Sized s z) (stands : Stands s (Some f)) (eb : q.block ≡ f.place / z.chunks) (ec : q.chunk ≡ f.place % z.chunks) where
  in_block : q.block ≡ f.place / s.p
  in_block = eb ∙ ap (λ (p : ℕ). f.place / p) sized.chunks

  in-chunk : q.chunk ≡ f.place % s.p
  in-chunk = ec ∙ ap (λ (p : ℕ). f.place % p) sized.chunks

  at-place : row_of s f.place ≡ s.cells q.block q.chunk
  at-place = sym (row-cell s f.place stands.0) ∙ ap (λ (b : ℕ). s.cells b (f.place % s.p)) (sym in_block) ∙ ap (λ (c : ℕ). s.cells q.block c) (sym in-chunk)

  -- it is not refused
  pub fetch-taken : (e : Fault) → s.on ≡ true → NotFetched s q e → ⊥
  fetch-taken Off on d = both_ways s.on d on
  fetch-taken NoSuchPlace on d =
      let b = row_block s.n s.p f.place stands.0 in
      let c = row-chunk s.n s.p f.place stands.0 in
      ⊎_elim (λ (x : s.n ≤ q.block). omega (arith, in_block)) (λ (x : s.p ≤ q.chunk). omega (arith, in-chunk)) d.1
  fetch-taken NotBlank on d = d
  fetch-taken (SupplyFailed a) on d = d
  fetch-taken NoRecord on d =
      ⊎_elim
      (λ (x : s.cells q.block q.chunk ≡ Blank). not-blank f.tag (ap look_of (sym (at-place ∙ x)) ∙ stands.1))
      (λ (x : s.cells q.block q.chunk ≡ Damaged). not-damaged f.tag (ap look_of (sym (at-place ∙ x)) ∙ stands.1))
      d.2

  -- and gives the record's bytes
  pub fetch-counted : (buffer : List ℕ) → FetchDone s q buffer → counted_at s (Some f) ≡ Some (take f.tag.third buffer)
  fetch-counted buffer d =
      let r = d.found in
      let x : row_of s f.place ≡ Holds r = at-place ∙ d.holds in
      let y : r.tag ≡ f.tag = (let w : record_l r.tag ≡ record_l f.tag = ap look_of (sym x) ∙ stands.1 in cc) in
      ap counted x ∙ ap (λ (t : Tag). Some (take t.third r.bytes)) y ∙ ap (λ (bs : List ℕ). Some (take f.tag.third bs)) (sym d.copied)
