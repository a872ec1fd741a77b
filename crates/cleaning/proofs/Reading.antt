-- The record of a chunk, by what the index tells and by a fetch. Assumes nothing.
use Rattle.std.proofs.Common.{◌≡◌, ℕ, ◌+◌, ◌*◌, ◌<◌, List, length, get_or, Some, inl, inr, sym, ap, ◌∙◌, arith}
use Rattle.std.proofs.lemmas.Bool.{both_ways}
use Rattle.std.proofs.lemmas.List.{get_or_default}
use Rattle.flash.specs.declared.chunks.Chunk.TheVariants.{Holds}
use Rattle.flash.specs.declared.chunks.Look.{Look}
use Rattle.flash.specs.declared.chunks.Look.TheVariants.{Blank as blank_l}
use Rattle.flash.specs.declared.chunks.Place.{Place}
use Rattle.flash.specs.declared.chunks.Record.{Record}
use Rattle.flash.specs.declared.chunks.Tag.{Tag}
use Rattle.flash.specs.declared.faults.Fault.{Fault}
use Rattle.flash.specs.declared.faults.Fault.TheVariants.{Off, NoSuchPlace, NotBlank, SupplyFailed, NoRecord}
use Rattle.flash.specs.Chunks.{look_of, tag_in}
use Rattle.flash.specs.Model.{State}
use Rattle.flash.specs.Reads.{NotFetched, FetchDone}
use Rattle.flash.proofs.Views.{cell_at}
use Rattle.scan.specs.declared.indexes.Index.{Index}
use Rattle.scan.specs.Indexes.{looks_in}
use Rattle.writing.specs.Writing.{Tells}
use Rattle.cleaning.specs.Steps.{HeldAt}
use Rattle.cleaning.proofs.Marks.{row-tells}

module _ (s : State) (x : Index) (t : Tells s x) (q : Place) (r : Record) (h : HeldAt s q r) where
  -- the row of its place tells of the record
  pub tag_told : (ls : List Look) (row : ℕ) (look : Look) → ls ≡ looks_in x → row ≡ q.block * x.sizes.chunks + q.chunk → row < length ls → look ≡ get_or ls row look → tag_in look ≡ Some r.tag
  tag_told ls row look i j l e =
      ap tag_in (e ∙ get_or_default ls row look blank_l l
      ∙ ap (λ (xs : List Look). get_or xs row blank_l) i
      ∙ ap (λ (k : ℕ). get_or (looks_in x) k blank_l) (j ∙ ap (λ (p : ℕ). q.block * p + q.chunk) t.chunks)
      ∙ row-tells s x t q.block q.chunk h.block h.chunk ∙ ap look_of h.holds)

  cell-holds : s.cells q.block q.chunk ≡ Holds r
  cell-holds = sym (cell_at s q.block q.chunk h.block h.chunk) ∙ h.holds

  -- a fetch there is not refused
  pub fetch_granted : (f : Fault) → NotFetched s q f → ⊥
  fetch_granted Off e = both_ways s.on e t.on
  fetch_granted NoSuchPlace e = elim e.1 [ inl k ↦ (let l = h.block in omega arith) | inr k ↦ (let l = h.chunk in omega arith) ]
  fetch_granted NotBlank e = e
  fetch_granted (SupplyFailed a) e = e
  fetch_granted NoRecord e = elim e.2 [
    | inl k ↦ (let c = cell-holds in let z : ◌≡◌ {A = ℕ} 0 1 = cc in omega arith)
    | inr k ↦ (let c = cell-holds in let z : ◌≡◌ {A = ℕ} 0 1 = cc in omega arith)
  ]

  -- the same record comes back
  pub same_record : (tag : Tag) (bytes : List ℕ) → Some tag ≡ Some r.tag → FetchDone s q bytes → record { tag = tag; bytes = bytes } ≡ r
  same_record tag bytes e d =
      let k : Holds d.found ≡ Holds r = sym d.holds ∙ cell-holds in
      let f : d.found ≡ r = cc in
      let a : tag ≡ r.tag = cc in
      let b : bytes ≡ r.bytes = d.copied ∙ ap (λ (y : Record). y.bytes) f in
      λ i. record { tag = a i; bytes = b i }
