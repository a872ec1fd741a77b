-- What a table finds of a chunk, and the bytes of that chunk. Assumes nothing.
use Rattle.std.proofs.Common.{◌≡◌, ℕ, ◌*◌, List, length, get_or, Some, None, Option, sym, refl, ap, ◌∙◌, arith}
use Rattle.std.specs.Option.{option_map}
use Rattle.flash.specs.declared.chunks.Look.{Look}
use Rattle.flash.specs.declared.chunks.Look.TheVariants.{Blank as blank_l}
use Rattle.flash.specs.declared.chunks.Record.{Record}
use Rattle.flash.specs.declared.chunks.Sizes.{Sizes}
use Rattle.flash.specs.declared.chunks.Tag.{Tag}
use Rattle.flash.specs.Blocks.{standing}
use Rattle.flash.specs.Model.{State, blocks_of}
use Rattle.rules.specs.Reading.{chunk, bytes_in}
use Rattle.rules.proofs.Filed.{chunk-at}
use Rattle.tags.specs.Bare.{bare, bare_tag, records}
use Rattle.tags.specs.Finds.{record_of, InPlace}
use Rattle.tags.specs.declared.finds.Found.{Found}
use Rattle.table.proofs.Alikes.{bare-reads-alike}
use Rattle.scan.specs.Flat.{flat}
use Rattle.scan.specs.Tables.{row_of}
use Rattle.scan.proofs.Flat.{flat-long, looks_long, looks-at}
use Rattle.scan.proofs.Recorded.{stands-in-row, table-records}
use Rattle.questions.specs.Reads.{counted, counted_at, Stands, Readable}
use Rattle.questions.proofs.Fetching.{held}

-- what the table finds of a chunk stands in its row, and has that chunk's bytes
module _ (s : State) (z : Sizes) (rows : List Look) (ok : Readable s z rows) where
  pub found-stands : (found : Option Found) → InPlace rows found → Stands s found
  found-stands None p = tt
  found-stands (Some f) p =
      let m = ok.table.mirror in
      let l : length rows ≡ s.n * s.p = ap length m ∙ looks_long (flat (blocks_of s)) ∙ flat-long s in
      (omega (arith, p.within), sym (looks-at (flat (blocks_of s)) f.place) ∙ ap (λ (xs : List Look). get_or xs f.place blank_l) (sym m) ∙ p.here)

  module _ (o j : ℕ) where
    mirrored : chunk (records rows) o j ≡ option_map bare (chunk (standing (blocks_of s)) o j)
    mirrored =
        ap (λ (xs : List Look). chunk (records xs) o j) ok.table.mirror
        ∙ ap (λ (rs : List Record). chunk rs o j) (table-records (blocks_of s))
        ∙ (bare-reads-alike (standing (blocks_of s))).chunk_same o j

    same_bytes : (f : Found) (m : Option Record) → chunk (standing (blocks_of s)) o j ≡ m → Some (bare_tag f.tag) ≡ option_map bare m → Stands s (Some f) → counted (row_of s f.place) ≡ bytes_in m
    same_bytes f None c e p = absurd cc
    same_bytes f (Some d) c e p =
        let h = held (row_of s f.place) f.tag p.1 in
        let t : bare_tag f.tag ≡ bare d = cc in
        let u : f.tag ≡ d.tag = ap (λ (x : Record). x.tag) t in
        let x : h.0 ≡ d = ok.unique h.0 d (stands-in-row s f.place h.0 h.1) (chunk-at (standing (blocks_of s)) o j d c).stands (ap (λ (y : Tag). y.serial) (h.2 ∙ u)) in
        ap counted h.1 ∙ ap (λ (y : Record). bytes_in (Some y)) x

    no_bytes : (m : Option Record) → None ≡ option_map bare m → None ≡ bytes_in m
    no_bytes None e = refl
    no_bytes (Some d) e = absurd cc

    pub found-bytes : (found : Option Found) → record_of found ≡ chunk (records rows) o j → InPlace rows found → counted_at s found ≡ bytes_in (chunk (standing (blocks_of s)) o j)
    found-bytes None e p = no_bytes (chunk (standing (blocks_of s)) o j) (e ∙ mirrored)
    found-bytes (Some f) e p = same_bytes f (chunk (standing (blocks_of s)) o j) refl (e ∙ mirrored) (found-stands (Some f) p)
