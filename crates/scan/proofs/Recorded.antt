-- The records of a table and the records that stand on its chip. Assumes nothing.
use Rattle.std.proofs.Common.{◌≡◌, ℕ, zero, suc, ◌*◌, ◌/◌, ◌%◌, ◌<◌, List, [], ◌∷◌, map, length, get_or, sym, refl, ap, ◌∙◌, subst, inl, inr, arith}
use Rattle.flash.specs.declared.chunks.Chunk.{Chunk}
use Rattle.flash.specs.declared.chunks.Chunk.TheVariants.{Blank, Damaged, Holds}
use Rattle.flash.specs.declared.chunks.Record.{Record}
use Rattle.flash.specs.Blocks.{records_of, standing}
use Rattle.flash.specs.Chunks.{Whole}
use Rattle.flash.specs.Model.{State, blocks_of}
use Rattle.rules.specs.Lists.{Among}
use Rattle.tags.specs.Bare.{bare, records}
use Rattle.scan.specs.Flat.{flat, looks, looks_of}
use Rattle.scan.specs.Scans.{AllWhole}
use Rattle.scan.specs.Tables.{row_of}
use Rattle.scan.proofs.Flat.{standing-flat, flat-long}
use Rattle.scan.proofs.Rows.{row_block, row-chunk}
use Rattle.scan.proofs.Telling.{row-cell}

-- a record stands in some row, and what a row holds stands
in_row : (cs : List Chunk) (r : Record) → Among r (records_of cs) → (k : ℕ) × (k < length cs) × (get_or cs k Blank ≡ Holds r)
in_row [] r a = absurd a
in_row (Blank ∷ cs) r a = let q = in_row cs r a in (suc q.0, omega (arith, q.1), q.2)
in_row (Damaged ∷ cs) r a = let q = in_row cs r a in (suc q.0, omega (arith, q.1), q.2)
in_row (Holds x ∷ cs) r (inl e) = (0, omega arith, ap Holds e)
in_row (Holds x ∷ cs) r (inr a) = let q = in_row cs r a in (suc q.0, omega (arith, q.1), q.2)

from_row : (cs : List Chunk) (k : ℕ) (r : Record) → get_or cs k Blank ≡ Holds r → Among r (records_of cs)
from_row [] k r e = cc
from_row (Blank ∷ cs) zero r e = cc
from_row (Blank ∷ cs) (suc k) r e = from_row cs k r e
from_row (Damaged ∷ cs) zero r e = cc
from_row (Damaged ∷ cs) (suc k) r e = from_row cs k r e
from_row (Holds x ∷ cs) zero r e = inl cc
from_row (Holds x ∷ cs) (suc k) r e = inr (from_row cs k r e)

pub stands-in-row : (s : State) (k : ℕ) (r : Record) → row_of s k ≡ Holds r → Among r (standing (blocks_of s))
stands-in-row s k r e = subst (Among r) (standing-flat (blocks_of s)) (from_row (flat (blocks_of s)) k r e)

-- every record that stands is whole
pub stands-whole : (s : State) → AllWhole s → (r : Record) → Among r (standing (blocks_of s)) → Whole r
stands-whole s w r a =
    let q = in_row (flat (blocks_of s)) r (subst (Among r) (sym (standing-flat (blocks_of s))) a) in
    let k = q.0 in
    let l = flat-long s in
    let h : k < s.n * s.p = omega (arith, q.1) in
    w (k / s.p) (k % s.p) (row_block s.n s.p k h) (row-chunk s.n s.p k h) r (row-cell s k h ∙ q.2)

-- the table's records are those of the chip with their data left out
records-looks : (cs : List Chunk) → records (looks cs) ≡ map bare (records_of cs)
records-looks [] = refl
records-looks (Blank ∷ cs) = records-looks cs
records-looks (Damaged ∷ cs) = records-looks cs
records-looks (Holds r ∷ cs) = ap {B = List Record} (λ zs. bare r ∷ zs) (records-looks cs)

pub table-records : (bs : List (List Chunk)) → records (looks_of bs) ≡ map bare (standing bs)
table-records bs = records-looks (flat bs) ∙ ap (map bare) (standing-flat bs)
