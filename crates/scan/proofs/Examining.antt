-- What mount's checks found, and its verdict. Assumes nothing.
use Rattle.std.proofs.Common.{◌≡◌, ℕ, ◌+◌, ◌*◌, ◌/◌, ◌≤◌, Bool, true, false, not, ◌&&◌, eqb, ltb, ◌⊎◌, List, [], ◌∷◌, map, length, Some, None, Ok, Err, Option, sym, refl, ap, ◌∙◌, subst, inl, inr, arith}
use Rattle.std.proofs.lemmas.Bool.{true_from_ne_false, false≢true, both_ways, cases_Bool, and_parts, and_from, not_from_false, not_from_true, eq-eqb, eqb-true, le-leb, cond-true, cond-false}
use Rattle.flash.specs.declared.chunks.Chunk.{Chunk}
use Rattle.flash.specs.declared.chunks.Chunk.TheVariants.{Blank, Damaged, Holds}
use Rattle.flash.specs.declared.chunks.Look.{Look}
use Rattle.flash.specs.declared.chunks.Place.{Place}
use Rattle.flash.specs.declared.chunks.Record.{Record}
use Rattle.flash.specs.declared.chunks.Sizes.{Sizes}
use Rattle.flash.specs.Blocks.{records_of, standing}
use Rattle.flash.specs.Model.{State, blocks_of}
use Rattle.flash.proofs.Views.{blocks-count, block-length, cell_at}
use Rattle.rules.specs.Lists.{Among, within, or_else}
use Rattle.rules.specs.declared.kinds.Kind.{Kind}
use Rattle.rules.specs.declared.kinds.Kind.TheVariants.{Data as data_k, Header as header_k, CutHeader as cut_k, Marker as marker_k, Other as other_k}
use Rattle.flash.specs.Chunks.{look_of}
use Rattle.rules.specs.Records.{kind, is_data, is_header, object, first_byte, keeps_rules}
use Rattle.rules.specs.Reading.{File, Files, files, in_file, used, used_by}
use Rattle.rules.specs.Places.{load}
use Rattle.rules.specs.Mounting.{sizes_fit, placed, first_placed, first_clash, two_named, limit, no_way_on, Fault, plain_if, placed_fault, verdict}
use Rattle.rules.specs.Laws.{Unique}
use Rattle.rules.proofs.Accepts.{way-from, way-to, unique-from, keeps-from, file-named}
use Rattle.rules.proofs.Filed.{some_is, some-none, HeaderIn, filed-view, header-filed, header_of, header_at, file-at}
use Rattle.rules.proofs.Counting.{used-by-files}
use Rattle.rules.proofs.Checks.{header-rule}
use Rattle.names.specs.Names.{Entries, name_from, name_if, Mirrors}
use Rattle.tags.specs.Bare.{bare, bares, records}
use Rattle.table.specs.Rows.{blocks_of as table_blocks}
use Rattle.table.specs.Laws.{bare_blocks}
use Rattle.table.proofs.Alikes.{bare-reads-alike}
use Rattle.table.proofs.BareBlocks.{table-mirrors, blocks-alike}
use Rattle.scan.specs.declared.refusals.Refusal.{Refusal}
use Rattle.scan.specs.declared.refusals.Refusal.TheVariants.{SerialClash, SameNames, FilesTooLarge, NoWayOn}
use Rattle.scan.specs.Flat.{flat}
use Rattle.scan.specs.Tables.{TableOf}
use Rattle.scan.specs.Scans.{AllWhole}
use Rattle.scan.specs.Clashes.{clash_place}
use Rattle.scan.specs.Checks.{filed_by, note_of, noted, FirstBroken, AllChecked}
use Rattle.scan.specs.Mounts.{whole_all}
use Rattle.scan.specs.Mounts.{verdict_of, Idle, Examined}
use Rattle.scan.proofs.Flat.{standing-flat, flat-cell}
use Rattle.scan.proofs.Telling.{rows_long, row-tells}
use Rattle.scan.proofs.Placed.{first-placed-none, first-placed-some}
use Rattle.scan.proofs.Recorded.{table-records, stands-whole}

no_both : (k : Kind) → is_header k ≡ true → is_data k ≡ true → ⊥
no_both data_k a b = both_ways false refl a
no_both header_k a b = both_ways false refl b
no_both cut_k a b = both_ways false refl b
no_both marker_k a b = both_ways false refl a
no_both other_k a b = both_ways false refl a

-- the name noted: that of some header of the object's file, or none where there is no such header
noted-cases : (filed : Record → Bool) (o : ℕ) (was : Option (List ℕ)) (xs : List Chunk) → 257 ≤ o → o ≤ 511
    → ((noted filed o was xs ≡ was) × ((r : Record) → Among r (records_of xs) → is_header (kind r) ≡ true → filed r ≡ true → object r ≡ o → ⊥))
    ⊎ ((r : Record) × Among r (records_of xs) × (is_header (kind r) ≡ true) × (filed r ≡ true) × (object r ≡ o) × (noted filed o was xs ≡ name_from r.bytes))
noted-cases filed o was [] low high = inl (refl, λ r a. absurd a)
noted-cases filed o was (Blank ∷ xs) low high = noted-cases filed o was xs low high
noted-cases filed o was (Damaged ∷ xs) low high = noted-cases filed o was xs low high
noted-cases filed o was (Holds x ∷ xs) low high =
    elim (noted-cases filed o (note_of filed o (Holds x) was) xs low high) [
      | inl h ↦ elim (cases_Bool (is_header (kind x) && (filed x && (within 257 511 (object x) && eqb o (object x))))) [
        | inl y ↦ (let a = and_parts (is_header (kind x)) _ y in let b = and_parts (filed x) _ a.1 in let c = and_parts (within 257 511 (object x)) _ b.1 in
            inr (x, inl refl, a.0, b.0, sym (eqb-true o (object x) c.1), h.0 ∙ cond-true (is_header (kind x) && (filed x && (within 257 511 (object x) && eqb o (object x)))) _ _ y))
        | inr n ↦ inl (
          h.0 ∙ cond-false (is_header (kind x) && (filed x && (within 257 511 (object x) && eqb o (object x)))) _ _ n,
          λ r a hd fl ob. elim a [
            | inl p ↦ both_ways (is_header (kind x) && (filed x && (within 257 511 (object x) && eqb o (object x)))) n (whole x r p hd fl ob)
            | inr b ↦ h.1 r b hd fl ob
          ],
        )
      ]
      | inr h ↦ inr (h.0, inr h.1, h.2, h.3, h.4, h.5)
    ]
  where
    whole : (x r : Record) → x ≡ r → is_header (kind r) ≡ true → filed r ≡ true → object r ≡ o → (is_header (kind x) && (filed x && (within 257 511 (object x) && eqb o (object x)))) ≡ true
    whole x r p hd fl ob =
        let ox : object x ≡ o = ap object p ∙ ob in
        and_from _ _ (ap (λ (w : Record). is_header (kind w)) p ∙ hd) (and_from _ _ (ap filed p ∙ fl)
        (and_from _ _ (ap (within 257 511) ox ∙ and_from _ _ (le-leb 257 o low) (le-leb o 511 high)) (eq-eqb _ _ (sym ox))))

module _ (s : State) (z : Sizes) (rows : List Look) (t : TableOf s z rows) where
  abbrev bs : List (List Chunk)
  bs = blocks_of s

  abbrev rs : List Record
  rs = standing (blocks_of s)

  table-rs : records rows ≡ map bare rs
  table-rs = ap records t.mirror ∙ table-records bs

  table-bs : table_blocks s.p s.n (bares rows) ≡ bare_blocks bs
  table-bs = (table-mirrors s.n s.p bs rows (record {
    blocks_long = blocks-count s;
    block_long = block-length s;
    looks_long = rows_long s z rows t;
    each = λ b c hb hc. row-tells s z rows (b * s.p + c) t ∙ ap look_of (flat-cell s b c hb hc ∙ sym (cell_at s b c hb hc));
  })).0

  -- the names noted are those of the files, once records of one serial are equal
  names-mirror : (names : Entries) → AllChecked s rows names → ((r : Record) → Among r rs → keeps_rules r ≡ true) → Unique rs → Mirrors names (files rs)
  names-mirror names h keeps u o low high = h.named o ∙ by-file (files rs o) refl (noted-cases (filed_by rows) o None (flat bs) low high)
    where
      filed-same : (r : Record) → filed_by rows r ≡ in_file rs r
      filed-same r = ap (λ (xs : List Record). in_file xs (bare r)) table-rs ∙ (bare-reads-alike rs).in_file_same r

      into : (r : Record) → Among r (records_of (flat bs)) → Among r rs
      into r a = subst (Among r) (standing-flat bs) a

      back : (r : Record) → Among r rs → Among r (records_of (flat bs))
      back r a = subst (Among r) (sym (standing-flat bs)) a

      head_in : (r : Record) → is_header (kind r) ≡ true → in_file rs r ≡ true → HeaderIn rs r
      head_in r k e = elim (filed-view rs r e) [ inl v ↦ v | inr v ↦ absurd (no_both (kind r) k v.isdata) ]

      by-file : (m : Option File) → files rs o ≡ m
          → ((noted (filed_by rows) o None (flat bs) ≡ None) × ((r : Record) → Among r (records_of (flat bs)) → is_header (kind r) ≡ true → filed_by rows r ≡ true → object r ≡ o → ⊥))
          ⊎ ((r : Record) × Among r (records_of (flat bs)) × (is_header (kind r) ≡ true) × (filed_by rows r ≡ true) × (object r ≡ o) × (noted (filed_by rows) o None (flat bs) ≡ name_from r.bytes))
          → noted (filed_by rows) o None (flat bs) ≡ name_if m
      by-file None e (inl x) = x.0
      by-file None e (inr x) =
          absurd (let g = file-named rs (object x.0) x.0 (header_of rs u x.0 (into x.0 x.1) (head_in x.0 x.2 (sym (filed-same x.0) ∙ x.3))) in
          some-none g.0 (sym g.1 ∙ ap (files rs) x.4 ∙ e))
      by-file (Some f) e (inl x) =
          absurd (let a = file-at rs o f e in let h = header_at rs o a.head a.header' in
          x.1 a.head (back a.head h.stands) h.filed.isheader (filed-same a.head ∙ header-filed rs a.head h.filed) h.of)
      by-file (Some f) e (inr x) =
          let r : Record = x.0 in
          let hd = header_of rs u x.0 (into x.0 x.1) (head_in x.0 x.2 (sym (filed-same x.0) ∙ x.3)) in
          let g = file-named rs (object x.0) x.0 hd in
          let same : g.0 ≡ f = some_is g.0 f (sym g.1 ∙ ap (files rs) x.4 ∙ e) in
          let hr = header-rule x.0 x.2 (keeps x.0 (into x.0 x.1)) in
          x.5 ∙ cond-true (within 1 40 (first_byte x.0.bytes)) _ _ (and_from _ _ (le-leb 1 _ hr.low) (le-leb _ 40 hr.high)) ∙ ap Some (sym g.2 ∙ ap (λ (w : File). w.name) same)

-- every record is whole
whole_from : (rs : List Record) → ((r : Record) → Among r rs → length r.bytes ≡ 2048) → whole_all rs ≡ true
whole_from [] f = refl
whole_from (r ∷ rs) f = and_from _ _ (eq-eqb _ _ (f r (inl refl))) (whole_from rs (λ x a. f x (inr a)))

whole-all : (s : State) → AllWhole s → whole_all (standing (blocks_of s)) ≡ true
whole-all s w = whole_from (standing (blocks_of s)) (λ r a. (stands-whole s w r a).bytes)

fits-own : {s : State} {z : Sizes} {rows : List Look} → TableOf s z rows → sizes_fit z.blocks z.chunks ≡ true → sizes_fit s.n s.p ≡ true
fits-own t f = rw (← t.sizes.blocks, ← t.sizes.chunks) f

-- the verdict of a chip with sizes that fit, check by check
abbrev refused_at : ℕ → ℕ → Option Fault
refused_at b c = Some (record { number = 10; at = Some (b, c) })

abbrev chain : Option (ℕ × ℕ) → Option (ℕ × ℕ) → Bool → Bool → Bool → Option Fault
chain m10 m11 b12 b13 b14 = or_else (placed_fault 10 m10) (or_else (placed_fault 11 m11) (or_else (plain_if b12 12) (or_else (plain_if b13 13) (plain_if b14 14))))

module _ (s : State) (fit : sizes_fit s.n s.p ≡ true) where
  verdict-by : {m10 m11 : Option (ℕ × ℕ)} {b12 b13 b14 : Bool} → first_placed (λ q. not (keeps_rules q.what)) (placed 0 (blocks_of s)) ≡ m10 → first_clash [] (placed 0 (blocks_of s)) ≡ m11
      → two_named (files (standing (blocks_of s))) ≡ b12 → ltb (limit s.n s.p) (used_by (files (standing (blocks_of s)))) ≡ b13 → no_way_on (blocks_of s) ≡ b14 → verdict s.n s.p (blocks_of s) ≡ chain m10 m11 b12 b13 b14
  verdict-by e10 e11 e12 e13 e14 = rw (fit, e10, e11, e12, e13, e14) refl

-- what the first checks found: the rows tell of the chip, all records are whole and keep the rules, and none clashes with another
pub record Passed (s : State) (z : Sizes) (rows : List Look) (names : Entries) : Type 0 where
  table : TableOf s z rows
  fit : sizes_fit z.blocks z.chunks ≡ true
  whole : AllWhole s
  checked : AllChecked s rows names
  clash : clash_place None ≡ first_clash [] (placed 0 (blocks_of s))

pub broken-rule : {s : State} {z : Sizes} {rows : List Look} (t : TableOf s z rows) → sizes_fit z.blocks z.chunks ≡ true → (names : Entries) (e : Refusal) → FirstBroken s e → Examined s (Err e) rows names
broken-rule {s = s} t fit names e f =
    let k = f.broken in
    record {
      answers =
          ap (λ (x : Refusal). verdict_of (Err x)) k.tells ∙ ap (λ (x : ℕ). refused_at x k.place.chunk) k.block ∙ ap (refused_at (f.row / s.p)) k.chunk
          ∙ sym (verdict-by s (fits-own t fit) (first-placed-some s (λ r. not (keeps_rules r)) f.row k.found k.here (not_from_false _ k.breaks) (λ j a l p. not_from_true _ (f.before j a l p))) refl refl refl refl);
      leaves = tt;
    }

no-broken : {s : State} {rows : List Look} {names : Entries} → AllChecked s rows names → first_placed (λ q. not (keeps_rules q.what)) (placed 0 (blocks_of s)) ≡ None
no-broken {s = s} h = first-placed-none s (λ r. not (keeps_rules r)) (λ k r l p. not_from_true _ (h.keep k r l p))

pub serial-clash : {s : State} {z : Sizes} {rows : List Look} (t : TableOf s z rows) → sizes_fit z.blocks z.chunks ≡ true → {names : Entries} → AllChecked s rows names
    → (q : Place) → clash_place (Some q) ≡ first_clash [] (placed 0 (blocks_of s)) → Examined s (Err (SerialClash q)) rows names
serial-clash {s = s} t fit h q e = record { answers = sym (verdict-by s (fits-own t fit) (no-broken h) (sym e) refl refl refl); leaves = tt }

pub passed : {s : State} {z : Sizes} {rows : List Look} {names : Entries} → TableOf s z rows → sizes_fit z.blocks z.chunks ≡ true → AllWhole s → AllChecked s rows names
    → clash_place None ≡ first_clash [] (placed 0 (blocks_of s)) → Passed s z rows names
passed t f w h c = record { table = t; fit = f; whole = w; checked = h; clash = c }

module _ {s : State} {z : Sizes} {rows : List Look} {names : Entries} (p : Passed s z rows names) where
  keeps : (r : Record) → Among r (standing (blocks_of s)) → keeps_rules r ≡ true
  keeps = keeps-from (blocks_of s) (no-broken p.checked)

  unique : Unique (standing (blocks_of s))
  unique = unique-from (blocks_of s) (sym p.clash)

  mirror : Mirrors names (files (standing (blocks_of s)))
  mirror = names-mirror s z rows p.table names p.checked keeps unique

  -- whether two of the files that the names mirror have one name
  abbrev pub Alike : Bool → Type 0
  Alike y = (fs : Files) → Mirrors names fs → y ≡ two_named fs

  verdict-then : {b12 b13 b14 : Bool} → two_named (files (standing (blocks_of s))) ≡ b12 → ltb (limit s.n s.p) (used_by (files (standing (blocks_of s)))) ≡ b13 → no_way_on (blocks_of s) ≡ b14
      → verdict s.n s.p (blocks_of s) ≡ chain None None b12 b13 b14
  verdict-then = verdict-by s (fits-own p.table p.fit) (no-broken p.checked) (sym p.clash)

  pub same-names : Alike true → Examined s (Err SameNames) rows names
  same-names e = record { answers = sym (verdict-then (sym (e _ mirror)) refl refl); leaves = tt }

  large-is : ltb (limit z.blocks z.chunks) (used (records rows)) ≡ ltb (limit s.n s.p) (used_by (files (standing (blocks_of s))))
  large-is =
      rw (p.table.sizes.blocks, p.table.sizes.chunks)
      (ap (ltb (limit s.n s.p)) (ap used (table-rs s z rows p.table) ∙ (bare-reads-alike (standing (blocks_of s))).used_same ∙ sym (used-by-files (standing (blocks_of s)) unique keeps)))

  pub too-large : Alike false → true ≡ ltb (limit z.blocks z.chunks) (used (records rows)) → Examined s (Err FilesTooLarge) rows names
  too-large e l = record { answers = sym (verdict-then (sym (e _ mirror)) (sym (l ∙ large-is)) refl); leaves = tt }

  load-is : (i : ℕ) → load (table_blocks z.chunks z.blocks (bares rows)) i ≡ load (blocks_of s) i
  load-is i = rw (p.table.sizes.blocks, p.table.sizes.chunks) (ap (λ (xs : List (List Chunk)). load xs i) (table-bs s z rows p.table) ∙ (blocks-alike (blocks_of s)).load_same i)

  long : length rows ≡ z.blocks * z.chunks
  long = rw (p.table.sizes.blocks, p.table.sizes.chunks) (rows_long s z rows p.table)

  idle-is : (y : Bool) → Idle rows z y → no_way_on (blocks_of s) ≡ not y
  idle-is true d =
      let w = (d long).0 refl in
      let n = p.table.sizes.blocks in
      way-to s.n (blocks_of s) (blocks-count s) (w.0, omega (arith, w.1), sym (load-is w.0) ∙ w.2)
  idle-is false d =
      true_from_ne_false (no_way_on (blocks_of s))
      (λ q.
      let w = way-from s.n (blocks_of s) (blocks-count s) q in
      let n = p.table.sizes.blocks in
      false≢true ((d long).1 (w.0, omega (arith, w.1), load-is w.0 ∙ w.2)))

  module _ (e : Alike false) (l : false ≡ ltb (limit z.blocks z.chunks) (used (records rows))) where
    pub no-way : Idle rows z false → Examined s (Err NoWayOn) rows names
    no-way d = record { answers = sym (verdict-then (sym (e _ mirror)) (sym (l ∙ large-is)) (idle-is false d)); leaves = tt }

    pub accepted : Idle rows z true → Examined s (Ok tt) rows names
    accepted d = record {
      answers = sym (verdict-then (sym (e _ mirror)) (sym (l ∙ large-is)) (idle-is true d));
      leaves = record { mirror = p.table.mirror; whole = whole-all s p.whole; named = mirror };
    }
