-- What the checks of a call leave: a refusal, or a change that is ready with its record. Assumes nothing.
use Rattle.std.proofs.Common.{◌≡◌, ℕ, Bool, true, false, List, ◌++◌, length, vec_items, Some, None, Option, refl, sym, ap, ◌∙◌, arith}
use Rattle.std.proofs.lemmas.Bool.{not-false, and_from, le-leb}
use Rattle.std.specs.Bool.{MatchBool}
use Rattle.flash.specs.declared.chunks.Record.{Record}
use Rattle.flash.specs.Blocks.{standing}
use Rattle.flash.specs.Model.{State, blocks_of, view_of}
use Rattle.names.specs.Names.{Entries, Mirrors, Noted, name_at, name_if}
use Rattle.names.proofs.Mirrored.{noted-mirrors}
use Rattle.rules.specs.Lists.{within}
use Rattle.rules.specs.Calls.{Call, create, put, cut, rename, delete, opens, closes, collect, mount, next, name_of, long_of, record_by, record_of}
use Rattle.rules.specs.Machine.{IsChange}
use Rattle.rules.specs.Reading.{File, Files, files, present}
use Rattle.rules.specs.Refusals.{Store, recs, is_open, early_table, room_table, no_serial, refusal}
use Rattle.rules.specs.Right.{accepted, changed, fresh, renamed}
use Rattle.rules.proofs.Accepts.{mount-good}
use Rattle.rules.proofs.Checks.{clear-all, file-rule}
use Rattle.rules.proofs.Filed.{present-file, there-some}
use Rattle.reading.specs.Sizes.{length_of}
use Rattle.tags.specs.Bare.{records}
use Rattle.std.specs.Option.{unwrap_or, option_map, UnwrapsOrElse}
use Rattle.scan.specs.declared.indexes.Index.{Index}
use Rattle.scan.specs.Indexes.{looks_in, names_in, Knows}
use Rattle.drafts.specs.Drafts.{IsObject, IsName, IsPut}
use Rattle.checks.proofs.Known.{long_told}
use Rattle.store.specs.Stores.{store_of}
use Rattle.store.specs.Running.{OpenPresent}
use Rattle.store.proofs.Running.{shaped}

-- a change that is not refused runs
pub change_runs : (st : Store) (call : Call) → IsChange call → refusal st call ≡ 0 → st.running ≡ true
change_runs st (opens o) c e = absurd c
change_runs st (closes o) c e = absurd c
change_runs st collect c e = absurd c
change_runs st mount c e = absurd c
change_runs st call c e = not-false _ (clear-all (early_table st call ++ room_table st call) (omega arith) e).0

-- what the arguments of a call are that is not refused, and that a serial is left
create_clear : (st : Store) (o : ℕ) (name : List ℕ) → refusal st (create o name) ≡ 0 → IsObject o × IsName name × (no_serial (recs st) ≡ false)
create_clear st o name e =
    let cl = clear-all (early_table st (create o name) ++ room_table st (create o name)) (omega arith) e in
    (not-false _ cl.1.0, not-false _ cl.1.1.0, cl.1.1.1.1.1.0)

put_clear : (st : Store) (o j : ℕ) (bs : List ℕ) → refusal st (put o j bs) ≡ 0 → IsPut bs × (no_serial (recs st) ≡ false)
put_clear st o j bs e =
    let cl = clear-all (early_table st (put o j bs) ++ room_table st (put o j bs)) (omega arith) e in
    (not-false _ cl.1.1.0, cl.1.1.1.1.0)

cut_clear : (st : Store) (o n : ℕ) → refusal st (cut o n) ≡ 0 → (is_open st o ≡ true) × (no_serial (recs st) ≡ false)
cut_clear st o n e =
    let cl = clear-all (early_table st (cut o n) ++ room_table st (cut o n)) (omega arith) e in
    (not-false _ cl.1.1.0, cl.1.1.1.1.0)

record RenameClear (st : Store) (o : ℕ) (name : List ℕ) : Type 0 where
  object : IsObject o
  name' : IsName name
  there : present (recs st) o ≡ true
  some : no_serial (recs st) ≡ false

rename_clear : (st : Store) (o : ℕ) (name : List ℕ) → refusal st (rename o name) ≡ 0 → RenameClear st o name
rename_clear st o name e =
    let cl = clear-all (early_table st (rename o name) ++ room_table st (rename o name)) (omega arith) e in
    record { object = not-false _ cl.1.0; name' = not-false _ cl.1.1.0; there = not-false _ cl.1.1.1.0; some = cl.1.1.1.1.1.1.0 }

delete_clear : (st : Store) (o : ℕ) → refusal st (delete o) ≡ 0 → IsObject o × (no_serial (recs st) ≡ false)
delete_clear st o e =
    let cl = clear-all (early_table st (delete o) ++ room_table st (delete o)) (omega arith) e in
    (not-false _ cl.1.0, cl.1.1.1.1.0)

-- what a search that finds something leaves
pub some_unwraps : {A B : Type 0} (seen : A → B) (m : Option A) (P : A → Type 0) (r : A) (b : B) → UnwrapsOrElse m P r → option_map seen m ≡ Some b → seen r ≡ b
some_unwraps seen None P r b u e = cc
some_unwraps seen (Some x) P r b u e = cc

-- a present file: its object, and its name in the index
record Filed (s : State) (x : Index) (o : ℕ) : Type 0 where
  file : File
  is : files (standing (blocks_of s)) o ≡ Some file
  object : IsObject o
  named : IsName file.name
  kept : name_at (names_in x) o ≡ Some file.name

filed : (s : State) (x : Index) (o : ℕ) → Knows (view_of s) x → present (standing (blocks_of s)) o ≡ true → Filed s x o
filed s x o k e =
    let f = there-some (files (standing (blocks_of s)) o) (sym (present-file (standing (blocks_of s)) o) ∙ e) in
    let r = file-rule 2048 s.n s.p (blocks_of s) (omega arith) (mount-good 2048 s.n s.p (blocks_of s) (shaped s k.whole) k.accepted) o f.0 f.1 in
    record {
      file = f.0;
      is = f.1;
      object = and_from _ _ (le-leb 257 o r.low) (le-leb o 511 r.high);
      named = and_from _ _ (le-leb 1 (length f.0.name) r.named) (le-leb (length f.0.name) 40 r.brief);
      kept = k.named o r.low r.high ∙ ap name_if f.1;
    }

-- the records of the changes
module _ (s : State) (x : Index) (on : Bool) (held : List Bool) (known : on ≡ true → Knows (view_of s) x) (present : on ≡ true → OpenPresent s held) (k : ℕ) (r : Record)
    (above : on ≡ true → no_serial (standing (blocks_of s)) ≡ false → k ≡ next (standing (blocks_of s))) where
  abbrev st : Store
  st = store_of s on held (vec_items x.standings)

  drafted : (call : Call) → IsChange call → refusal st call ≡ 0 → no_serial (recs st) ≡ false → r ≡ record_by 2048 k (files (recs st)) call → r ≡ record_of 2048 (recs st) call
  drafted call ch free some adds = adds ∙ ap (λ (n : ℕ). record_by 2048 n (files (recs st)) call) (above (change_runs st call ch free) some)

  pub create_record : (o : ℕ) (name : List ℕ) → ((fs : Files) → IsObject o → IsName name → r ≡ record_by 2048 k fs (create o name)) → refusal st (create o name) ≡ 0
      → r ≡ record_of 2048 (recs st) (create o name)
  create_record o name made free = (let cl = create_clear st o name free in drafted (create o name) tt free cl.2 (made (files (recs st)) cl.0 cl.1))

  pub delete_record : (o : ℕ) → ((fs : Files) → IsObject o → r ≡ record_by 2048 k fs (delete o)) → refusal st (delete o) ≡ 0 → r ≡ record_of 2048 (recs st) (delete o)
  delete_record o made free = (let cl = delete_clear st o free in drafted (delete o) tt free cl.1 (made (files (recs st)) cl.0))

  pub put_record : (o j : ℕ) (bs : List ℕ) → ((fs : Files) → IsPut bs → r ≡ record_by 2048 k fs (put o j bs)) → refusal st (put o j bs) ≡ 0 → r ≡ record_of 2048 (recs st) (put o j bs)
  put_record o j bs made free = (let cl = put_clear st o j bs free in drafted (put o j bs) tt free cl.1 (made (files (recs st)) cl.0))

  pub cut_record : (o n : ℕ) (name : List ℕ) → ((is : List ℕ) → name_at (names_in x) o ≡ Some is → name ≡ is)
      → ((fs : Files) → IsObject o → IsName name → name ≡ name_of (fs o) → r ≡ record_by 2048 k fs (cut o n)) → refusal st (cut o n) ≡ 0 → r ≡ record_of 2048 (recs st) (cut o n)
  cut_record o n name is made free =
      let cl = cut_clear st o n free in
      let run = change_runs st (cut o n) tt free in
      let f = filed s x o (known run) (present run o cl.0) in
      let same = is f.file.name f.kept in
      drafted (cut o n) tt free cl.1 (made (files (recs st)) f.object (rw same (f.named)) (same ∙ sym (ap name_of f.is)))

  pub rename_record : (o : ℕ) (name : List ℕ) (long : ℕ) → long ≡ unwrap_or (length_of (records (looks_in x)) o) 0
      → ((fs : Files) → IsObject o → IsName name → long ≡ long_of (fs o) → r ≡ record_by 2048 k fs (rename o name)) → refusal st (rename o name) ≡ 0 → r ≡ record_of 2048 (recs st) (rename o name)
  rename_record o name long is made free =
      let cl = rename_clear st o name free in
      let run = change_runs st (rename o name) tt free in
      let l = long_told st x (record { running = run; knows = known run }) o in
      drafted (rename o name) tt free cl.some (made (files (recs st)) cl.object cl.name' (is ∙ l))

-- the table of names follows a file that gets a name or loses it
pub named_changed : (before after : Entries) (fs : Files) (o : ℕ) (f : Option File → Option File) (name : Option (List ℕ))
    → Mirrors before fs → Noted before o name after → name_if (f (fs o)) ≡ name → Mirrors after (changed fs o f)
named_changed before after fs o f name m n e = noted-mirrors before after fs (changed fs o f) o name n m (grind arith) (λ k d. grind arith)

named_by_put : (before after : Entries) (fs : Files) (o : ℕ) (name : List ℕ) (f : Option File → Option File) → Mirrors before fs
    → MatchBool (within 1 40 (length name)) (Noted before o (Some name) after) (after ≡ before)
    → IsName name → name_if (f (fs o)) ≡ Some name → Mirrors after (changed fs o f)
named_by_put before after fs o name f m h real e = named_changed before after fs o f (Some name) m (rw real at h) e

pub named_by_create : (st : Store) (o : ℕ) (name : List ℕ) (before after : Entries) → MatchBool (within 1 40 (length name)) (Noted before o (Some name) after) (after ≡ before)
    → refusal st (create o name) ≡ 0 → Mirrors before (files (recs st)) → Mirrors after (accepted (files (recs st)) (create o name))
named_by_create st o name before after h free m = named_by_put before after (files (recs st)) o name (fresh name) m h (create_clear st o name free).1 refl

pub named_by_rename : (st : Store) (o : ℕ) (name : List ℕ) (before after : Entries) → MatchBool (within 1 40 (length name)) (Noted before o (Some name) after) (after ≡ before)
    → refusal st (rename o name) ≡ 0 → Mirrors before (files (recs st)) → Mirrors after (accepted (files (recs st)) (rename o name))
named_by_rename st o name before after h free m =
    let cl = rename_clear st o name free in
    let f = there-some (files (recs st) o) (sym (present-file (recs st) o) ∙ cl.there) in
    named_by_put before after (files (recs st)) o name (renamed name) m h cl.name' (ap (λ (q : Option File). name_if (renamed name q)) f.1)
