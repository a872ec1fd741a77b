-- Bytes put into the file of a name. Assumes nothing.
use Rattle.std.proofs.Common.{◌≡◌, ℕ, ◌+◌, ◌*◌, ◌≤◌, ◌<◌, Bool, true, not, cond, ◌==◌, ◌⊎◌, List, Some, None, Option, Ok, Err, Result, vec_items, refl, sym, ap, ◌∙◌, subst, inl, inr, arith}
use Rattle.std.proofs.Math.Nat.{add-mul}
use mathlib.Core.Path.{fun_ext}
use Rattle.flash.specs.Model.{State}
use Rattle.image.specs.Format.{image_of}
use Rattle.cleaning.specs.declared.adds.Counts.{Counts}
use Rattle.rules.specs.declared.standings.Standing.{Standing}
use Rattle.rules.specs.Calls.{find, opens, closes}
use Rattle.rules.specs.Lists.{is_there}
use Rattle.rules.specs.Machine.{Step, granted}
use Rattle.rules.specs.Mounting.{Fault}
use Rattle.rules.specs.Reading.{File, Files, files, present}
use Rattle.rules.specs.Refusals.{Store, recs, refusal, no_object}
use Rattle.rules.specs.Right.{changed}
use Rattle.rules.specs.Runs.{Holds}
use Rattle.rules.proofs.Filed.{present-file}
use Rattle.rules.proofs.Whole.{steps-are-right}
use Rattle.scan.specs.declared.refusals.Refusal.{Refusal}
use Rattle.store.specs.Changes.{Refused}
use Rattle.store.specs.Opening.{Closed}
use Rattle.store.specs.Stores.{store_of}
use Rattle.texts.specs.declared.stops.Stop.TheVariants.{Store as Of}
use Rattle.opening.specs.Opening.{Accepted}
use Rattle.files.specs.Answers.{files_on}
use Rattle.edits.specs.declared.edited.Edited.{Edited}
use Rattle.edits.specs.Puts.{chunks_in, file_with, IsObjectFor, IsPut, Unmade, Unwritten, WhyNotPut, NotPut}
use Rattle.edits.specs.Creating.{Turned, called, Made}
use Rattle.edits.specs.Writing.{with_content, Written, Refills, Writes}
use Rattle.edits.proofs.Over.{Over, Start, becomes}
use Rattle.edits.proofs.Lending.{opened_now, closes_open, opens_table}
use Rattle.edits.proofs.Turning.{turned_twice}
use Rattle.edits.proofs.Filling.{sum_small}

-- a file opened
pub open_turned : (s u : Store) (o : ℕ) → Holds 2048 s → s.running ≡ true → Step 2048 s (opens o) granted u → Turned s (files (recs s)) u
open_turned s u o h on st =
    let r = steps-are-right 2048 (omega arith) s u (opens o) granted h st in
    record { holds = r.holds'; running = ap (λ (z : Store). z.running) st.1 ∙ on; same_n = r.same_n; same_p = r.same_p; files_are = r.rightly }

pub never_refused : (s t : Store) (o : ℕ) (e : Refusal) → refusal s (opens o) ≡ 0 → Refused s (opens o) e t → ⊥
never_refused s t o e free r = let q = r.step.1 in omega (arith, q, free)

refills-open : (u v : Store) (o : ℕ) (content : List ℕ) (r : Result Counts Refusal) → Refills u o content r v → v.opened ≡ u.opened
refills-open u v o content (Ok c) h = h.1
refills-open u v o content (Err e) h = h.1

-- it can be closed whatever came of the writing
pub closes_after : (s u v t : Store) (o k : ℕ) (content : List ℕ) (r : Result Counts Refusal) (e : Refusal) → k ≡ o → Step 2048 s (opens o) granted u → Refills u k content r v → Closed v k (Err e) t → ⊥
closes_after s u v t o k content r e same a b c =
    closes_open v t o e (ap (λ (os : ℕ → Bool). os o) (refills-open u v k content r b) ∙ opened_now s u o a) (subst (λ (j : ℕ). Closed v j (Err e) t) same c)

written-all : (s u v t : Store) (o : ℕ) (content : List ℕ) (r : Result Counts Refusal) → Holds 2048 s → s.running ≡ true → Step 2048 s (opens o) granted u → Refills u o content r v → Step 2048 v (closes o) granted t → Writes s o content r t
written-all s u v t o content (Err e) h on a b c = b.0
written-all s u v t o content (Ok x) h on a b c =
    let p = open_turned s u o h on a in
    let w = b.0 in
    let r = steps-are-right 2048 (omega arith) v t (closes o) granted w.turned.holds c in
    record {
      turned = record {
        holds = r.holds';
        running = ap (λ (z : Store). z.running) c.1 ∙ w.turned.running;
        same_n = r.same_n ∙ w.turned.same_n ∙ p.same_n;
        same_p = r.same_p ∙ w.turned.same_p ∙ p.same_p;
        files_are = λ k. r.rightly k ∙ w.turned.files_are k ∙ ap (λ (fs : Files). changed fs o (with_content content) k) (fun_ext p.files_are);
      };
      few = w.few;
      least = w.least;
      most = subst (λ (q : ℕ). x.programs ≤ (chunks_in content + 1) * q) p.same_p w.most;
      erases = w.erases;
    }

pub written_so : (s u v t : Store) (o k : ℕ) (content : List ℕ) (r : Result Counts Refusal) → k ≡ o → Holds 2048 s → s.running ≡ true → Step 2048 s (opens o) granted u → Refills u k content r v
    → Step 2048 v (closes k) granted t → Writes s o content r t
written_so s u v t o k content r same h on a b c = written-all s u v t o content r h on a (subst (λ (j : ℕ). Refills u j content r v) same b) (subst (λ (j : ℕ). Step 2048 v (closes j) granted t) same c)

-- a file found or made can be opened
called-there : (name : List ℕ) (m : Option File) → is_there (called name m) ≡ true
called-there name None = refl
called-there name (Some f) = refl

self-same : (o : ℕ) → (o == o) ≡ true
self-same o = grind arith

there-now : (fs : Files) (o : ℕ) (name : List ℕ) → is_there (changed fs o (called name) o) ≡ true
there-now fs o name = ap (λ (b : Bool). is_there (cond b (called name (fs o)) (fs o))) (self-same o) ∙ called-there name (fs o)

pub opens_made : (xs name : List ℕ) (s t : Store) (o : ℕ) (c : Counts) → Start xs s → Made s name o c t → refusal t (opens o) ≡ 0
opens_made xs name s t o c st m =
    opens_table t.running (no_object o) (present (recs t) o) (t.opened o) m.turned.running (ap not m.real)
    (present-file (recs t) o ∙ ap is_there (m.turned.files_are o) ∙ there-now (files (recs s)) o name)
    (ap (λ (os : ℕ → Bool). os o) m.opened' ∙ st.closed o)

-- no image
why-so : (xs name content : List ℕ) (e : Refusal) → Accepted xs → Unmade (files_on xs) name e ⊎ Unwritten content e → NotPut xs name content (Of e)
why-so xs name content e a w = (a.image, subst (λ (v : Option Fault). WhyNotPut v (files_on xs) name content e) (sym a.mounts) w)

pub put_unmade : (xs name content : List ℕ) (s : Store) (e : Refusal) → Start xs s → Unmade (files (recs s)) name e → NotPut xs name content (Of e)
put_unmade xs name content s e st u = why-so xs name content e st.accepted' (inl (subst (λ (fs : Files). Unmade fs name e) (fun_ext st.over.files_are) u))

pub put_unwritten : (xs name content : List ℕ) (s : Store) (e : Refusal) → Start xs s → Unwritten content e → NotPut xs name content (Of e)
put_unwritten xs name content s e st u = why-so xs name content e st.accepted' (inr u)

-- the image
content-called : (name content : List ℕ) (m : Option File) → with_content content (called name m) ≡ Some (file_with name content)
content-called name content None = refl
content-called name content (Some f) = refl

all-most : (a b n p : ℕ) → a ≤ p → b ≤ (n + 1) * p → a + b ≤ (n + 2) * p
all-most a b n p h k = let x = add-mul n 1 p in let y = add-mul n 2 p in omega (arith, x, y, h, k)

-- the counts of both
pub record Sum (xs content : List ℕ) (c w : Counts) : Type 0 where
  pub least : chunks_in content ≤ c.programs + w.programs
  pub most : c.programs + w.programs ≤ (chunks_in content + 2) * (image_of xs).p
  pub erases : c.erases + w.erases ≤ (chunks_in content + 2) * 2

module _ (xs name content : List ℕ) (s t u : Store) (o : ℕ) (c w : Counts) (st : Start xs s) (m : Made s name o c t) (wr : Written t o content w u) where
  pub put_small : (c.programs + w.programs < 1000000) × (c.erases + w.erases < 1000000)
  put_small =
      let few = wr.few in
      let a = sum_small t (chunks_in content + 1) w.programs c.programs m.turned.holds (omega (arith, few)) wr.most (let p = m.programs in let q = m.turned.same_p in omega (arith, p, q)) in
      let x = m.erases in
      let y = wr.erases in
      (omega (arith, a), omega (arith, few, x, y))

  put-sum : Sum xs content c w
  put-sum =
      let l = wr.least in
      let x = m.erases in
      let y = wr.erases in
      let p : t.p ≡ (image_of xs).p = m.turned.same_p ∙ st.over.chunks in
      let q : s.p ≡ (image_of xs).p = st.over.chunks in
      record {
        least = omega (arith, l);
        most = all-most c.programs w.programs (chunks_in content) (image_of xs).p (subst (λ (k : ℕ). c.programs ≤ k) q m.programs) (subst (λ (k : ℕ). w.programs ≤ (chunks_in content + 1) * k) p wr.most);
        erases = omega (arith, x, y);
      }

  put-over : Over xs (changed (files_on xs) o (λ f. Some (file_with name content))) u
  put-over =
      let k = turned_twice s t u o (with_content content) (called name) (λ f. Some (file_with name content)) m.turned wr.turned (content-called name content (files (recs s) o)) in
      record {
        holds = k.holds;
        running = k.running;
        blocks = k.same_n ∙ st.over.blocks;
        chunks = k.same_p ∙ st.over.chunks;
        files_are = λ j. k.files_are j ∙ ap (λ (fs : Files). changed fs o (λ f. Some (file_with name content)) j) (fun_ext st.over.files_are);
      }

pub put_so : (xs name content : List ℕ) (s t : Store) (o : ℕ) (c w : Counts) (z : State) (on : Bool) (held : List Bool) (ss : List Standing) (e : Edited) → Start xs s → Made s name o c t
    → Written t o content w (store_of z on held ss) → e.counts ≡ record { programs = c.programs + w.programs; erases = c.erases + w.erases } → z ≡ image_of (vec_items e.bytes) → IsPut xs name content e
put_so xs name content s t o c w z on held ss e st m wr same_counts same =
    let sums = put-sum xs name content s t (store_of z on held ss) o c w st m wr in
    record {
      was = st.accepted';
      object = o;
      which = subst (λ (fs : Files). IsObjectFor fs (find fs name) o) (fun_ext st.over.files_are) m.which;
      is = becomes xs (vec_items e.bytes) _ z on held ss same (put-over xs name content s t (store_of z on held ss) o c w st m wr);
      least = subst (λ (k : Counts). chunks_in content ≤ k.programs) (sym same_counts) sums.least;
      most = subst (λ (k : Counts). k.programs ≤ (chunks_in content + 2) * (image_of xs).p) (sym same_counts) sums.most;
      erases = subst (λ (k : Counts). k.erases ≤ (chunks_in content + 2) * 2) (sym same_counts) sums.erases;
    }
