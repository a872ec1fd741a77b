-- What a refusal of a store over an image says of the image. Assumes nothing.
use Rattle.std.proofs.Common.{◌≡◌, ℕ, ◌≤◌, Bool, true, false, not, cond, ◌⊎◌, List, [], ◌∷◌, ◌++◌, Some, Option, nat_le, nat_lt, refl, sym, ap, ◌∙◌, subst, inl, inr, arith}
use mathlib.Core.Path.{fun_ext}
use Rattle.flash.specs.declared.chunks.Record.{Record}
use Rattle.flash.specs.declared.faults.Fault.{Fault}
use Rattle.flash.specs.declared.faults.Fault.TheVariants.{Off, NoSuchPlace, NotBlank, SupplyFailed, NoRecord}
use Rattle.flash.specs.Blocks.{standing}
use Rattle.flash.specs.Faults.{told as fault_told}
use Rattle.flash.specs.Model.{blocks_of}
use Rattle.image.specs.Format.{image_of}
use Rattle.rules.specs.Calls.{Call, delete, rename, cut, collect, find, long_of}
use Rattle.rules.specs.Lists.{is_there}
use Rattle.rules.specs.Places.{Flash}
use Rattle.rules.specs.Reading.{File, Files, files, present, name_taken}
use Rattle.rules.specs.Refusals.{Store, Table, recs, refusal, first_of, no_serial, no_name, no_object}
use Rattle.rules.proofs.Checks.{clear-all}
use Rattle.scan.specs.declared.refusals.Refusal.{Refusal}
use Rattle.scan.specs.declared.refusals.Refusal.TheVariants.{Chip}
use Rattle.scan.specs.Refusals.{told}
use Rattle.store.specs.Changes.{Refused, Broken}
use Rattle.texts.specs.declared.stops.Stop.TheVariants.{Store as Of}
use Rattle.opening.specs.Opening.{Accepted}
use Rattle.files.specs.Answers.{files_on}
use Rattle.files.specs.Cat.{name_table, nameless}
use Rattle.files.proofs.Answering.{refused_so}
use Rattle.files.proofs.Finding.{found_object}
use Rattle.edits.specs.Edits.{NotEdited}
use Rattle.edits.specs.Tables.{full_on, file_found, name_of_other, idle, remove_table, rename_table, cut_table, collect_table}
use Rattle.edits.proofs.Over.{Start}

-- every refusal has a number
fault_number : (f : Fault) → 1 ≤ (fault_told f).0
fault_number Off = omega arith
fault_number NoSuchPlace = omega arith
fault_number NotBlank = omega arith
fault_number (SupplyFailed a) = omega arith
fault_number NoRecord = omega arith

pub some_number : (e : Refusal) → 1 ≤ (told e).0
some_number (Chip f) = fault_number f
some_number e = omega arith

-- a change refused, or broken off
pub change_not : (xs : List ℕ) (table : Table) (s t : Store) (call : Call) (e : Refusal) → Accepted xs → refusal s call ≡ first_of table → Refused s call e t ⊎ Broken s call e t → NotEdited xs table (Of e)
change_not xs table s t call e a q (inl r) = let z = refused_so xs table e a (r.number ∙ ap (λ (k : ℕ). (k, [])) q) in (z.0, inl z.1)
change_not xs table s t call e a q (inr b) = (a.image, inr (record { mounts = a.mounts; act = _; is = b.names }))

-- the name
more-at : (k a b : ℕ) → (1 ≤ b → a ≡ b) → (c : Bool) → 1 ≤ cond c k b → cond c k a ≡ cond c k b
more-at k a b later true h = refl
more-at k a b later false h = later h

first-more : (t more : Table) → 1 ≤ first_of t → first_of (t ++ more) ≡ first_of t
first-more [] more h = absurd (omega (arith, h))
first-more (r ∷ rs) more h = more-at r.0 _ _ (first-more rs more) r.1 h

-- 15 does not fit a store that runs
runs-on : (b : Bool) (t : Table) → b ≡ true → first_of ((15, not b) ∷ t) ≡ first_of t
runs-on b t e = rw e refl

pub unfound : (xs name : List ℕ) (more : Table) (s : Store) (e : Refusal) → Start xs s → told e ≡ (first_of (name_table s name), []) → NotEdited xs (nameless (files_on xs) name ++ more) (Of e)
unfound xs name more s e st q =
    let t : Table = nameless (files_on xs) name in
    let files' : files (recs s) ≡ files_on xs = fun_ext st.over.files_are in
    let k : first_of (name_table s name) ≡ first_of t = runs-on s.running (nameless (files (recs s)) name) st.over.running ∙ ap (λ (fs : Files). first_of (nameless fs name)) files' in
    let q' : told e ≡ (first_of t, []) = q ∙ ap (λ (i : ℕ). (i, [])) k in
    let some : 1 ≤ first_of t = subst (λ (i : ℕ). 1 ≤ i) (ap (λ (z : ℕ × List ℕ). z.0) q') (some_number e) in
    let z = refused_so xs (t ++ more) e st.accepted' (q' ∙ ap (λ (i : ℕ). (i, [])) (sym (first-more t more some))) in
    (z.0, inl z.1)

-- what is known of an object that was found
pub record Found (xs name : List ℕ) (s : Store) (o : ℕ) : Type 0 where
  pub found : find (files_on xs) name ≡ Some o
  pub named : no_name name ≡ false
  pub real : no_object o ≡ false
  pub there : present (recs s) o ≡ true

pub found_so : (xs name : List ℕ) (s : Store) (o : ℕ) → Start xs s → first_of (name_table s name) ≡ 0 → find (files (recs s)) name ≡ Some o → Found xs name s o
found_so xs name s o st free q =
    let f = found_object (recs s) name o q in
    record {
      found = subst (λ (fs : Files). find fs name ≡ Some o) (fun_ext st.over.files_are) q;
      named = (clear-all (name_table s name) (omega arith) free).1.0;
      real = ap not f.0;
      there = f.1;
    }

-- the tables of the calls, of a store that runs and a file that is there
named-table : (nn : Bool) (m : Option ℕ) (o : ℕ) (more : Table) → nn ≡ false → m ≡ Some o → first_of ((19, nn) ∷ (20, not (is_there m)) ∷ more) ≡ first_of more
named-table nn m o more a b = rw (a, b) refl

delete-table : (r ob pr op se : Bool) → r ≡ true → ob ≡ false → pr ≡ true → op ≡ false → first_of ((15, not r) ∷ (16, ob) ∷ (20, not pr) ∷ (23, op) ∷ (26, se) ∷ []) ≡ first_of ((26, se) ∷ [])
delete-table r ob pr op se a b c d = rw (a, b, c, d) refl

renames-table : (r ob nn pr tk op se : Bool) → r ≡ true → ob ≡ false → pr ≡ true → op ≡ false
    → first_of ((15, not r) ∷ (16, ob) ∷ (19, nn) ∷ (20, not pr) ∷ (22, tk) ∷ (23, op) ∷ (26, se) ∷ []) ≡ first_of ((19, nn) ∷ (22, tk) ∷ (26, se) ∷ [])
renames-table r ob nn pr tk op se a b c d = rw (a, b, c, d) refl

cuts-table : (r big op le se : Bool) → r ≡ true → op ≡ true → first_of ((15, not r) ∷ (17, big) ∷ (24, not op) ∷ (25, le) ∷ (26, se) ∷ []) ≡ first_of ((17, big) ∷ (25, le) ∷ (26, se) ∷ [])
cuts-table r big op le se a b = rw (a, b) refl

module _ (xs name : List ℕ) (s : Store) (o : ℕ) (st : Start xs s) (f : Found xs name s o) where
  files-same : files (recs s) ≡ files_on xs
  files-same = fun_ext st.over.files_are

  recs-same : recs s ≡ standing (blocks_of (image_of xs))
  recs-same = ap (λ (z : Flash). standing z.blocks) st.flash_is

  serials-same : no_serial (recs s) ≡ no_serial (standing (blocks_of (image_of xs)))
  serials-same = ap no_serial recs-same

  files-there : (o : ℕ) → files (recs s) o ≡ files_on xs o
  files-there = st.over.files_are

  -- neither 19 nor 20
  nameless-clear : (more : Table) → first_of (nameless (files_on xs) name ++ more) ≡ first_of more
  nameless-clear more = named-table (no_name name) (find (files_on xs) name) o more f.named f.found

  pub remove_refusal : refusal s (delete o) ≡ first_of (remove_table xs name)
  remove_refusal =
      delete-table s.running (no_object o) (present (recs s) o) (s.opened o) (no_serial (recs s)) st.over.running f.real f.there (st.closed o)
      ∙ ap (λ (b : Bool). first_of ((26, b) ∷ [])) serials-same
      ∙ sym (nameless-clear (full_on xs))

  pub rename_refusal : (new : List ℕ) → refusal s (rename o new) ≡ first_of (rename_table xs name new)
  rename_refusal new =
      let taken : name_taken (files (recs s)) o new ≡ name_of_other (files_on xs) (find (files_on xs) name) new
      = ap (λ (fs : Files). name_taken fs o new) files-same ∙ ap (λ (m : Option ℕ). name_of_other (files_on xs) m new) (sym f.found) in
      renames-table s.running (no_object o) (no_name new) (present (recs s) o) (name_taken (files (recs s)) o new) (s.opened o) (no_serial (recs s)) st.over.running f.real f.there (st.closed o)
      ∙ ap (λ (b : Bool). first_of ((19, no_name new) ∷ (22, b) ∷ (26, no_serial (recs s)) ∷ [])) taken
      ∙ ap (λ (b : Bool). first_of ((19, no_name new) ∷ (22, name_of_other (files_on xs) (find (files_on xs) name) new) ∷ (26, b) ∷ [])) serials-same
      ∙ sym (nameless-clear ((19, no_name new) ∷ (22, name_of_other (files_on xs) (find (files_on xs) name) new) ∷ full_on xs))

  pub cut_refusal : (u : Store) (n : ℕ) → u.running ≡ true → u.opened o ≡ true → recs u ≡ recs s → refusal u (cut o n) ≡ first_of (cut_table xs name n)
  cut_refusal u n r q e =
      let found : files (recs u) o ≡ file_found (files_on xs) (find (files_on xs) name)
      = ap (λ (rs : List Record). files rs o) e ∙ files-there o ∙ ap (λ (m : Option ℕ). file_found (files_on xs) m) (sym f.found) in
      cuts-table u.running (nat_lt 1000 n) (u.opened o) (nat_le (long_of (files (recs u) o)) n) (no_serial (recs u)) r q
      ∙ ap (λ (m : Option File). first_of ((17, nat_lt 1000 n) ∷ (25, nat_le (long_of m) n) ∷ (26, no_serial (recs u)) ∷ [])) found
      ∙ ap (λ (b : Bool). first_of ((17, nat_lt 1000 n) ∷ (25, nat_le (long_of (file_found (files_on xs) (find (files_on xs) name))) n) ∷ (26, b) ∷ [])) (ap no_serial e ∙ serials-same)
      ∙ sym (nameless-clear ((17, nat_lt 1000 n) ∷ (25, nat_le (long_of (file_found (files_on xs) (find (files_on xs) name))) n) ∷ full_on xs))

pub collect_refusal : (xs : List ℕ) (s : Store) → Start xs s → refusal s collect ≡ first_of (collect_table xs)
collect_refusal xs s st =
    runs-on s.running ((28, idle s.p s.flash) ∷ []) st.over.running
    ∙ ap (λ (p : ℕ). first_of ((28, idle p s.flash) ∷ [])) st.over.chunks
    ∙ ap (λ (g : Flash). first_of ((28, idle (image_of xs).p g) ∷ [])) st.flash_is
