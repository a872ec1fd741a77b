-- What the checks of a change leave: a record that keeps the rules, and files that mount accepts. Assumes nothing.
use Rattle.std.proofs.Common.{◌≡◌, ℕ, zero, suc, ◌+◌, ◌≤◌, true, false, cond, not, ◌&&◌, eqb, leb, ◌⊎◌, List, [], ◌∷◌, ◌++◌, length, take, replicate, Some, None, Option, sym, refl, ap, subst, inr, arith, length-append, inl}
use Rattle.std.proofs.lemmas.Bool.{and_from, not-false, ltb-false, le-leb}
use Rattle.flash.specs.declared.chunks.Record.{Record}
use Rattle.rules.specs.Lists.{is_there, within}
use Rattle.rules.specs.Records.{kind, kind_by, is_header, first_byte, keeps_rules}
use Rattle.rules.specs.Reading.{named, name_taken, present, files, File, name_in, Files, parts_up, used_of, used_up, used_by}
use Rattle.rules.specs.Calls.{Call, create, put, cut, rename, delete, record_by, next, padded, name_of, long_of}
use Rattle.rules.specs.Right.{changed, fresh, with_part, shortened, renamed}
use Rattle.rules.specs.Refusals.{Store, Table, first_of, recs, is_open, no_serial, early_table, room_table, refusal}
use Rattle.flash.specs.declared.chunks.Chunk.{Chunk}
use Rattle.flash.specs.Blocks.{standing}
use Rattle.rules.proofs.Removal.{chunk-there, highest-least}
use Rattle.rules.proofs.Adding.{data-number}
use Rattle.rules.proofs.Changes.{data-kind}
use Rattle.rules.proofs.Counting.{object-in}
use Rattle.rules.proofs.Filed.{some_is, header_at, file-at, present-file}
use Rattle.rules.proofs.Keeping.{Good}
use Rattle.rules.proofs.Objects.{object-false}
use Rattle.rules.proofs.Accepts.{bytes-from, Names, file-range}
use Rattle.rules.proofs.Planning.{Fit}

-- a table whose rows all fail
abbrev pub Numbered : Table → Type 0
Numbered [] = Unit {0}
Numbered (r ∷ rs) = (1 ≤ r.0) × Numbered rs

abbrev pub Clear : Table → Type 0
Clear [] = Unit {0}
Clear (r ∷ rs) = (r.1 ≡ false) × Clear rs

pub clear-all : (t : Table) → Numbered t → first_of t ≡ 0 → Clear t
clear-all [] n e = tt
clear-all (r ∷ rs) n e = grind (arith, clear-all rs n.1)

pub clear_none : (t more : Table) → Clear t → first_of (t ++ more) ≡ first_of more
clear_none [] more c = refl
clear_none (r ∷ rs) more c = grind (arith, clear_none rs more c.1)

within-view : (a b k : ℕ) → within a b k ≡ true → (a ≤ k) × (k ≤ b)
within-view a b k e = grind arith

within-from : (a b k : ℕ) → a ≤ k → k ≤ b → within a b k ≡ true
within-from a b k l h = grind arith

-- what files use
one-plus : (a b : ℕ) → a ≤ b → 1 + a ≤ 1 + b
one-plus a b l = omega arith

parts-mono : (part part' : ℕ → Option (List ℕ)) (k : ℕ) → ((j : ℕ) → is_there (part j) ≡ true → is_there (part' j) ≡ true) → parts_up part k ≤ parts_up part' k
parts-mono part part' zero h = omega arith
parts-mono part part' (suc k) h = grind (arith, parts-mono part part' k h)

up-mono : (fs gs : Files) (k : ℕ) → ((o : ℕ) → used_of (fs o) ≤ used_of (gs o)) → used_up fs k ≤ used_up gs k
up-mono fs gs zero h = omega arith
up-mono fs gs (suc k) h = grind (arith, up-mono fs gs k h)

by-mono : (fs gs : Files) → ((o : ℕ) → used_of (fs o) ≤ used_of (gs o)) → used_by fs ≤ used_by gs
unfolding used_by
by-mono fs gs h = up-mono fs gs 255 h

changed-mono : (fs : Files) (o : ℕ) (F : Option File → Option File) → ((m : Option File) → used_of (F m) ≤ used_of m) → used_by (changed fs o F) ≤ used_by fs
changed-mono fs o F h = grind (arith, by-mono)

cut-there : (n k : ℕ) (m : Option (List ℕ)) → is_there (cond (leb k n) m None) ≡ true → is_there m ≡ true
cut-there n k m e = grind arith

cut-less : (n : ℕ) (m : Option File) → used_of (shortened n m) ≤ used_of m
unfolding used_of
cut-less n None = omega arith
cut-less n (Some f) = search (arith, one-plus, parts-mono, cut-there)

rename-less : (name : List ℕ) (m : Option File) → used_of (renamed name m) ≤ used_of m
unfolding used_of
rename-less name None = omega arith
rename-less name (Some f) = one-plus _ _ (parts-mono f.part f.part 1000 (λ j e. e))

delete-less : (m : Option File) → used_of None ≤ used_of m
unfolding used_of
delete-less m = omega arith

-- names
abbrev Free : Files → ℕ → List ℕ → Type 0
Free fs o name = (k : ℕ) (h : File) → (k ≡ o → ⊥) → fs k ≡ Some h → h.name ≡ name → ⊥

names-changed : (fs : Files) (o : ℕ) (F : Option File → Option File) → Names fs
    → ((g : File) → F (fs o) ≡ Some g → ((f : File) × (fs o ≡ Some f) × (f.name ≡ g.name)) ⊎ Free fs o g.name)
    → Names (changed fs o F)
names-changed fs o F names new a b f g p q s = search arith

name_free : (fs : Files) (o : ℕ) (name : List ℕ) → ((k : ℕ) (f : File) → fs k ≡ Some f → (257 ≤ k) × (k ≤ 511)) → name_taken fs o name ≡ false → Free fs o name
unfolding name_taken
name_free fs o name range e k f n p s =
    let b = range k f p in
    object-false (λ k. not (eqb k o) && named name (fs k)) k e b.0 b.1
    (grind (arith, bytes-from))

-- lengths
rep-long : (k x : ℕ) → length (replicate k x) ≡ k
rep-long zero x = refl
rep-long (suc k) x = ap suc (rep-long k x)

pad-long : (w : ℕ) (bs : List ℕ) → length bs ≤ w → length (padded w bs) ≡ w
pad-long w bs l = grind (arith, length-append, rep-long)

take_long : (k : ℕ) (xs : List ℕ) → k ≤ length xs → length (take k xs) ≡ k
take_long zero xs l = refl
take_long (suc k) [] l = absurd (omega arith)
take_long (suc k) (x ∷ xs) l = ap suc (take_long k xs (omega arith))

name-long : (bs : List ℕ) → 41 ≤ length bs → 1 ≤ first_byte bs → first_byte bs ≤ 40 → (1 ≤ length (name_in bs)) × (length (name_in bs) ≤ 40)
name-long k l a b = grind (arith, take_long)

-- what rule 10 says of a header
pub record HeaderRule (h : Record) : Type 0 where
  pub low : 1 ≤ first_byte h.bytes
  pub high : first_byte h.bytes ≤ 40
  pub short : h.tag.third ≤ 1000

pub header-rule : (h : Record) → is_header (kind h) ≡ true → keeps_rules h ≡ true → HeaderRule h
unfolding keeps_rules
header-rule h k e = search arith

-- a present file: its object number, its name's length and its length
pub record FileRule (o : ℕ) (f : File) : Type 0 where
  pub low : 257 ≤ o
  pub high : o ≤ 511
  pub named : 1 ≤ length f.name
  pub brief : length f.name ≤ 40
  pub short : f.long ≤ 1000

pub file-rule : (w n p : ℕ) (bs : List (List Chunk)) → 2048 ≤ w → Good w n p bs → (o : ℕ) (f : File) → files (standing bs) o ≡ Some f → FileRule o f
file-rule w n p bs big g o f e =
    let a = file-at (standing bs) o f e in
    let h = header_at (standing bs) o a.head a.header' in
    let r = header-rule a.head h.filed.isheader (g.rules a.head h.stands) in
    let q = object-in a.head (g.rules a.head h.stands) in
    let l = name-long a.head.bytes (let z = g.shape.bytes' a.head h.stands in omega arith) r.low r.high in
    record {
      low = subst (λ (z : ℕ). 257 ≤ z) h.of q.0;
      high = subst (λ (z : ℕ). z ≤ 511) h.of q.1;
      named = subst (λ (z : List ℕ). 1 ≤ length z) (sym a.name') l.0;
      brief = subst (λ (z : List ℕ). length z ≤ 40) (sym a.name') l.1;
      short = (let m = a.long' in let c = r.short in
          omega (arith, highest-least (standing bs) o 1000 (grind (arith, chunk-there, data-number))));
    }

-- the rules of the new record
serial-in : (rs : List Record) → no_serial rs ≡ false → within 1 4294967295 (next rs) ≡ true
serial-in rs e = grind arith

second-in : (o : ℕ) → 257 ≤ o → o ≤ 511 → within (0x10000000 + 257) (0x10000000 + 511) (0x10000000 + o) ≡ true
second-in o l h = grind arith

module _ (w : ℕ) (big : 2048 ≤ w) (s : Store) (g : Good w s.n s.p s.flash.blocks) (held : (o : ℕ) → is_open s o ≡ true → present (recs s) o ≡ true) where
  abbrev fs : Files
  fs = files (recs s)

  abbrev pub Fits : Call → Type 0
  Fits call = (s.running ≡ true) × Fit w s.n s.p (next (recs s)) (files (recs s)) call

  there : (o : ℕ) → present (recs s) o ≡ true → (f : File) × (files (recs s) o ≡ Some f)
  there o e = grind (arith, present-file)

  present-still : (o : ℕ) → present (recs s) o ≡ true → (rs : List Record) → ((o : ℕ) → files rs o ≡ files (recs s) o) → present rs o ≡ true
  present-still o e rs h = grind (arith, present-file)

  pub fit-create : (o : ℕ) (name : List ℕ) → refusal s (create o name) ≡ 0 → Fits (create o name)
  unfolding keeps_rules kind kind_by
  fit-create o name e =
      let cl = clear-all (early_table s (create o name) ++ room_table s (create o name)) (omega arith) e in
      let ob = within-view 257 511 o (not-false _ cl.1.0) in
      let nm = within-view 1 40 (length name) (not-false _ cl.1.1.0) in (
        not-false _ cl.0,
        record {
          rules = and_from _ _ (serial-in (recs s) cl.1.1.1.1.1.0) (and_from _ _ (second-in o ob.0 ob.1) (within-from 1 40 (length name) nm.0 nm.1));
          bytes' = pad-long w (length name ∷ name) (omega arith);
          serial' = refl;
          filed = record {
            room = ltb-false _ _ cl.1.1.1.1.1.1.0;
            names = names-changed (files (recs s)) o (fresh name) g.filed.names (λ x q. inr (subst (Free (files (recs s)) o) (ap (λ (z : File). z.name) (some_is _ x q)) (name_free (files (recs s)) o name (file-range (recs s) g.rules) cl.1.1.1.1.0)));
          };
          allowed = λ rs q. tt;
        },
      )

  pub fit-put : (o j : ℕ) (bs : List ℕ) → refusal s (put o j bs) ≡ 0 → Fits (put o j bs)
  unfolding keeps_rules kind
  fit-put o j bs e =
      let cl = clear-all (early_table s (put o j bs) ++ room_table s (put o j bs)) (omega arith) e in
      let jn = within-view 1 1000 j (not-false _ cl.1.0) in
      let ln = within-view 1 2048 (length bs) (not-false _ cl.1.1.0) in
      let pr : present (recs s) o ≡ true = held o (not-false _ cl.1.1.1.0) in
      let fl = there o pr in
      let fr = file-rule w s.n s.p s.flash.blocks big g o fl.0 fl.1 in
      let r : Record = record_by w (next (recs s)) (files (recs s)) (put o j bs) in (
        not-false _ cl.0,
        record {
          rules = grind (arith, serial-in, data-kind, within-from);
          bytes' = pad-long w bs (omega arith);
          serial' = refl;
          filed = record { room = grind arith; names = names-changed (files (recs s)) o (with_part j bs) g.filed.names (λ x q. inl (kept (files (recs s) o) refl x q)) };
          allowed = grind (arith, present-still);
        },
      )
    where
      kept : (m : Option File) → files (recs s) o ≡ m → (x : File) → with_part j bs m ≡ Some x → (f : File) × (files (recs s) o ≡ Some f) × (f.name ≡ x.name)
      kept k p x q = grind arith

  pub fit_cut : (o l : ℕ) → refusal s (cut o l) ≡ 0 → Fits (cut o l)
  unfolding keeps_rules kind kind_by
  fit_cut o l e =
      let cl = clear-all (early_table s (cut o l) ++ room_table s (cut o l)) (omega arith) e in
      let pr : present (recs s) o ≡ true = held o (not-false _ cl.1.1.0) in
      let fl = there o pr in
      let fr = file-rule w s.n s.p s.flash.blocks big g o fl.0 fl.1 in
      let nm : (1 ≤ length (name_of (files (recs s) o))) × (length (name_of (files (recs s) o)) ≤ 40) = subst (λ (z : Option File). (1 ≤ length (name_of z)) × (length (name_of z) ≤ 40)) (sym fl.1) (fr.named, fr.brief) in (
        not-false _ cl.0,
        record {
          rules = and_from _ _ (serial-in (recs s) cl.1.1.1.1.0) (grind (arith, second-in, within-from));
          bytes' = pad-long w (length (name_of (files (recs s) o)) ∷ name_of (files (recs s) o)) (omega arith);
          serial' = refl;
          filed = record {
            room = omega (arith, changed-mono (files (recs s)) o (shortened l) (cut-less l));
            names = names-changed (files (recs s)) o (shortened l) g.filed.names (λ x q. inl (kept (files (recs s) o) refl x q));
          };
          allowed = λ rs q. present-still o pr rs q;
        },
      )
    where
      kept : (m : Option File) → files (recs s) o ≡ m → (x : File) → shortened l m ≡ Some x → (f : File) × (files (recs s) o ≡ Some f) × (f.name ≡ x.name)
      kept k p x q = grind arith

  pub fit-rename : (o : ℕ) (name : List ℕ) → refusal s (rename o name) ≡ 0 → Fits (rename o name)
  unfolding keeps_rules kind kind_by
  fit-rename o name e =
      let cl = clear-all (early_table s (rename o name) ++ room_table s (rename o name)) (omega arith) e in
      let ob = within-view 257 511 o (not-false _ cl.1.0) in
      let nm = within-view 1 40 (length name) (not-false _ cl.1.1.0) in
      let pr : present (recs s) o ≡ true = not-false _ cl.1.1.1.0 in
      let fl = there o pr in
      let fr = file-rule w s.n s.p s.flash.blocks big g o fl.0 fl.1 in
      let sh : long_of (files (recs s) o) ≤ 1000 = subst (λ (z : Option File). long_of z ≤ 1000) (sym fl.1) fr.short in (
        not-false _ cl.0,
        record {
          rules = and_from _ _ (serial-in (recs s) cl.1.1.1.1.1.1.0) (and_from _ _ (second-in o ob.0 ob.1) (and_from _ _ (le-leb _ 1000 sh) (within-from 1 40 (length name) nm.0 nm.1)));
          bytes' = pad-long w (length name ∷ name) (omega arith);
          serial' = refl;
          filed = record {
            room = (let x = g.filed.room in let y = changed-mono (files (recs s)) o (renamed name) (rename-less name) in omega arith);
            names = names-changed (files (recs s)) o (renamed name) g.filed.names (λ x q. inr (subst (Free (files (recs s)) o) (new (files (recs s) o) x q) (name_free (files (recs s)) o name (file-range (recs s) g.rules) cl.1.1.1.1.0)));
          };
          allowed = λ rs q. present-still o pr rs q;
        },
      )
    where
      new : (m : Option File) (x : File) → renamed name m ≡ Some x → name ≡ x.name
      new k x q = grind arith

  pub fit-delete : (o : ℕ) → refusal s (delete o) ≡ 0 → Fits (delete o)
  unfolding keeps_rules kind kind_by
  fit-delete o e =
      let cl = clear-all (early_table s (delete o) ++ room_table s (delete o)) (omega arith) e in
      let ob = within-view 257 511 o (not-false _ cl.1.0) in (
        not-false _ cl.0,
        record {
          rules = grind (arith, serial-in, second-in);
          bytes' = pad-long w [] (omega arith);
          serial' = refl;
          filed = record {
            room = omega (arith, changed-mono (files (recs s)) o (λ m. None) delete-less);
            names = names-changed (files (recs s)) o (λ m. None) g.filed.names (λ x q. cc);
          };
          allowed = λ rs q. tt;
        },
      )
