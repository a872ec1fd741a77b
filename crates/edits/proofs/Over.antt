-- A running store over an image, and the image that it leaves. Assumes nothing.
use Rattle.std.proofs.Common.{◌≡◌, ℕ, ◌≤◌, ◌<◌, Bool, true, false, cond, List, [], ◌==◌, Some, None, vec_items, sym, ap, ◌∙◌, subst, arith}
use mathlib.Core.Path.{fun_ext}
use Rattle.flash.specs.declared.chips.Chip.{Ghosts}
use Rattle.flash.specs.declared.chunks.Chunk.{Chunk}
use Rattle.flash.specs.Blocks.{standing}
use Rattle.flash.specs.Model.{State, blocks_of}
use Rattle.image.specs.declared.images.ImageChip.{ImageChip}
use Rattle.image.specs.Format.{misfit, chip_of, no_chip, image_of}
use Rattle.cleaning.specs.declared.adds.Counts.{Counts}
use Rattle.rules.specs.declared.standings.Standing.{Standing}
use Rattle.rules.specs.Calls.{Call, opens, closes, collect, find}
use Rattle.rules.specs.Machine.{Step, counted, collected, granted}
use Rattle.rules.specs.Mounting.{mounted, verdict}
use Rattle.rules.specs.Places.{Flash, runs, clean, to_clean}
use Rattle.rules.specs.Reading.{Files, files}
use Rattle.rules.specs.Refusals.{Store, Table, recs, first_of}
use Rattle.rules.specs.Right.{accepted}
use Rattle.rules.specs.Runs.{Holds, Shaped}
use Rattle.rules.proofs.Accepts.{mount-good}
use Rattle.rules.proofs.Tidy.{pair_is}
use Rattle.rules.proofs.Whole.{steps-are-right, holding-suffices}
use Rattle.store.specs.declared.stores.Store.{Store as Kept}
use Rattle.store.specs.Stored.{stored}
use Rattle.store.specs.Stores.{store_of}
use Rattle.store.proofs.Running.{shaped}
use Rattle.runs.proofs.Steps.{just_begun}
use Rattle.opening.specs.Opening.{Accepted, IsOpened}
use Rattle.files.specs.Answers.{files_on}
use Rattle.edits.specs.declared.edited.Edited.{Edited}
use Rattle.edits.specs.declared.collect.Collected.{Collected}
use Rattle.edits.specs.Collects.{IsCollected}
use Rattle.edits.specs.Edits.{Becomes, Cheap, IsEdited}
use Rattle.edits.specs.Tables.{collect_table}

-- a running store over a chip of the sizes of an image, with these files
pub record Over (xs : List ℕ) (fs : Files) (s : Store) : Type 0 where
  pub holds : Holds 2048 s
  pub running : s.running ≡ true
  pub blocks : s.n ≡ (image_of xs).n
  pub chunks : s.p ≡ (image_of xs).p
  pub files_are : (o : ℕ) → files (recs s) o ≡ fs o

-- as it is opened, with no file open
pub record Start (xs : List ℕ) (s : Store) : Type 0 where
  pub accepted' : Accepted xs
  pub over : Over xs (files_on xs) s
  pub flash_is : s.flash ≡ mounted (blocks_of (image_of xs))
  pub closed : (o : ℕ) → s.opened o ≡ false

pub opened_start : {chip : Ghosts ImageChip} (xs : List ℕ) (s : Kept ImageChip chip) → IsOpened xs s → Start xs (stored s)
opened_start {chip = c} xs s o = record {
  accepted' = o.accepted;
  over = record {
    holds = (just_begun (λ v a. Unit {0}) (image_of xs) (c.model s.chip) false s.running [] s.held [] (vec_items s.index.standings) o.same (shaped (c.model s.chip) (s.known o.running).whole) o.accepted.mounts o.running o.unheld o.flash).holds;
    running = o.running;
    blocks = ap (λ (z : State). z.n) o.same;
    chunks = ap (λ (z : State). z.p) o.same;
    files_are = λ k. ap {A = Flash} (λ t. files (standing t.blocks) k) o.flash;
  };
  flash_is = o.flash;
  closed = o.unheld;
}

-- one call more
module _ (xs : List ℕ) (fs : Files) (s t : Store) (h : Over xs fs s) where
  files-same : files (recs s) ≡ fs
  files-same = fun_ext h.files_are

  module _ (call : Call) (a b : ℕ) (st : Step 2048 s call (counted a b) t) where
    pub over_changed : Over xs (accepted fs call) t
    over_changed =
        let r = steps-are-right 2048 (omega arith) s t call (counted a b) h.holds st in
        record {
          holds = r.holds';
          running = ap (λ (z : Store). z.running) st.3 ∙ h.running;
          blocks = r.same_n ∙ h.blocks;
          chunks = r.same_p ∙ h.chunks;
          files_are = λ o. r.rightly o ∙ ap (λ (gs : Files). accepted gs call o) files-same;
        }

    pub same_open : t.opened ≡ s.opened
    same_open = ap (λ (z : Store). z.opened) st.3

    pub costs_little : (1 ≤ a) × (a ≤ (image_of xs).p) × (b ≤ 2)
    costs_little =
        let k = (holding-suffices 2048 (omega arith) s h.holds).costs call st.0 st.1 in
        let p = ap (λ (z : ℕ × ℕ). z.0) st.2 in
        let e = ap (λ (z : ℕ × ℕ). z.1) st.2 in
        (omega (arith, p, k), omega (arith, p, k, h.chunks), omega (arith, e, k))

  pub over_opens : (o : ℕ) → Step 2048 s (opens o) granted t → Over xs fs t
  over_opens o st =
      let r = steps-are-right 2048 (omega arith) s t (opens o) granted h.holds st in
      record { holds = r.holds'; running = ap (λ (z : Store). z.running) st.1 ∙ h.running; blocks = r.same_n ∙ h.blocks; chunks = r.same_p ∙ h.chunks; files_are = λ k. r.rightly k ∙ h.files_are k }

  pub over_closes : (o : ℕ) → Step 2048 s (closes o) granted t → Over xs fs t
  over_closes o st =
      let r = steps-are-right 2048 (omega arith) s t (closes o) granted h.holds st in
      record { holds = r.holds'; running = ap (λ (z : Store). z.running) st.1 ∙ h.running; blocks = r.same_n ∙ h.blocks; chunks = r.same_p ∙ h.chunks; files_are = λ k. r.rightly k ∙ h.files_are k }

  pub over_collect : (b k : ℕ) → Step 2048 s collect (collected b k) t → Over xs fs t
  over_collect b k st =
      let r = steps-are-right 2048 (omega arith) s t collect (collected b k) h.holds st in
      record { holds = r.holds'; running = ap (λ (z : Store). z.running) st.3 ∙ h.running; blocks = r.same_n ∙ h.blocks; chunks = r.same_p ∙ h.chunks; files_are = λ o. r.rightly o ∙ h.files_are o }

-- the image that it leaves
by-fit : (m : ℕ) (s : State) → 0 < (cond (m == 0) s no_chip).n → m ≡ 0
by-fit m s h = grind arith

some-blocks : (n p : ℕ) (bs : List (List Chunk)) → Shaped 2048 n p bs → verdict n p bs ≡ None → 0 < n
some-blocks n p bs sh e = let q = (mount-good 2048 n p bs sh e).sizes in grind (arith, q)

pub becomes : (xs ys : List ℕ) (fs : Files) (z : State) (on : Bool) (held : List Bool) (ss : List Standing) → z ≡ image_of ys → Over xs fs (store_of z on held ss) → Becomes xs fs ys
becomes xs ys fs z on held ss e h =
    let g : Over xs fs (store_of (image_of ys) on held ss) = subst (λ (y : State). Over xs fs (store_of y on held ss)) e h in
    record {
      accepted' = record { image = by-fit (misfit ys) (chip_of ys) (some-blocks _ _ _ g.holds.shaped g.holds.mounts); mounts = g.holds.mounts };
      blocks = g.blocks;
      chunks = g.chunks;
      power = g.holds.powered g.running;
      files_are = g.files_are;
    }

-- the image after a change
pub edited_so : (xs name : List ℕ) (table : Table) (call : ℕ → Call) (o : ℕ) (z : State) (on : Bool) (held : List Bool) (ss : List Standing) (cs : Counts) (e : Edited)
    → Accepted xs → find (files_on xs) name ≡ Some o → first_of table ≡ 0 → Over xs (accepted (files_on xs) (call o)) (store_of z on held ss)
    → (1 ≤ cs.programs) × (cs.programs ≤ (image_of xs).p) × (cs.erases ≤ 2) → e.counts ≡ cs → z ≡ image_of (vec_items e.bytes) → IsEdited xs name table call e
edited_so xs name table call o z on held ss cs e was found free h cheap same_counts same = record {
  was = was;
  object = o;
  found = found;
  free = free;
  is = becomes xs (vec_items e.bytes) (accepted (files_on xs) (call o)) z on held ss same h;
  cheap = subst (λ (k : Counts). Cheap xs k) (sym same_counts) (record { some = cheap.0; programs = cheap.1; erases = cheap.2 });
}

-- the image after a collect
pub collected_so : (xs : List ℕ) (s : Store) (z : State) (on : Bool) (held : List Bool) (ss : List Standing) (c : Collected) → Start xs s → first_of (collect_table xs) ≡ 0
    → Step 2048 s collect (collected c.block c.copies) (store_of z on held ss) → z ≡ image_of (vec_items c.bytes) → IsCollected xs c
collected_so xs s z on held ss c st free step same =
    let k = (holding-suffices 2048 (omega arith) s st.over.holds).collects step.1 in
    let copies : k.0.1 ≡ c.copies = (pair_is k.0 (c.block, c.copies) (sym k.1 ∙ step.2)).1 in
    record {
      was = st.accepted';
      free = free;
      block = subst (λ (f : Flash). to_clean f ≡ Some (c.block, c.copies)) st.flash_is step.2;
      few = omega (arith, copies, k.2, st.over.chunks);
      contents = subst (λ (y : State). blocks_of y ≡ (runs (mounted (blocks_of (image_of xs))) (clean (mounted (blocks_of (image_of xs))))).blocks) same
          (ap (λ (t : Store). t.flash.blocks) step.3 ∙ ap (λ (f : Flash). (runs f (clean f)).blocks) st.flash_is);
      is = becomes xs (vec_items c.bytes) (files_on xs) z on held ss same (over_collect xs (files_on xs) s _ st.over c.block c.copies step);
    }
