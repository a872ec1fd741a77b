-- One row checked, and all rows. Assumes nothing.
use Rattle.std.proofs.Common.{◌≡◌, ℕ, ◌+◌, ◌<◌, ◌≤◌, Bool, ◌≢◌, List, length, drop, None, Ok, Option, sym, refl, ap, ◌∙◌, ⊎_elim, arith}
use Rattle.std.proofs.lemmas.List.{at_drop_more, at_drop_all}
use Rattle.std.proofs.lemmas.Bool.{cases_eq}
use Rattle.flash.specs.declared.chunks.Chunk.{Chunk}
use Rattle.flash.specs.declared.chunks.Chunk.TheVariants.{Blank, Damaged, Holds}
use Rattle.flash.specs.declared.chunks.Look.{Look}
use Rattle.flash.specs.declared.chunks.Record.{Record}
use Rattle.flash.specs.declared.chunks.Sizes.{Sizes}
use Rattle.flash.specs.Model.{State, blocks_of}
use Rattle.names.specs.Names.{Entries, name_at}
use Rattle.scan.specs.Flat.{flat}
use Rattle.scan.specs.Tables.{TableOf, row_of, tag_at}
use Rattle.scan.specs.Checks.{filed_by, note_of, noted, RowChecked, AllChecked, KeepTo}
use Rattle.scan.proofs.Flat.{flat-long}
use Rattle.scan.proofs.Telling.{rows_long, recordless}

-- a row that tells of no record
no_note : (filed : Record → Bool) (o : ℕ) (x : Chunk) (was : Option (List ℕ)) → ((r : Record) → x ≡ Holds r → ⊥) → was ≡ note_of filed o x was
no_note filed o Blank was n = refl
no_note filed o Damaged was n = refl
no_note filed o (Holds r) was n = absurd (n r refl)

pub row-passed : (s : State) (rows : List Look) (i : ℕ) (names : Entries) → tag_at s i ≡ None → RowChecked s rows i names (Ok tt) names
row-passed s rows i names n = ((λ r e. absurd (recordless s i n r e)), λ o. no_note (filed_by rows) o (row_of s i) (name_at names o) (recordless s i n))

-- the rows below i checked: their records keep the rules, and what the names noted give with the rows from i on is what all rows give
abbrev pub CheckedTo : State → List Look → ℕ → Entries → Type 0
CheckedTo s rows i names =
    KeepTo s i × ((o : ℕ) → noted (filed_by rows) o (name_at names o) (drop i (flat (blocks_of s))) ≡ noted (filed_by rows) o None (flat (blocks_of s)))

module _ {s : State} {z : Sizes} {rows : List Look} (t : TableOf s z rows) (i : ℕ) where
  pub checked-more : (before after : Entries) → i < length rows → CheckedTo s rows i before → RowChecked s rows i before (Ok tt) after → CheckedTo s rows (i + 1) after
  checked-more before after h c r =
      let l : i < length (flat (blocks_of s)) = omega (arith, rows_long s z rows t, flat-long s) in (
        λ k a b e. ⊎_elim (λ (x : k ≡ i). r.0 a (ap (row_of s) (sym x) ∙ e)) (λ (x : k ≢ i). c.0 k a (omega arith) e) (cases_eq k i),
        λ o. rw (r.1 o) (sym (at_drop_more (noted (filed_by rows) o (name_at before o)) (flat (blocks_of s)) i Blank l) ∙ c.1 o),
      )

  pub checked-all : (names : Entries) → length rows ≤ i → CheckedTo s rows i names → AllChecked s rows names
  checked-all names h c =
      let l : length (flat (blocks_of s)) ≤ i = omega (arith, rows_long s z rows t, flat-long s) in
      record {
        keep = λ k r b e. c.0 k r (omega (arith, flat-long s)) e;
        named = λ o. sym (at_drop_all (noted (filed_by rows) o (name_at names o)) (flat (blocks_of s)) i l) ∙ c.1 o;
      }
