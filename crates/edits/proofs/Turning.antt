-- One change more of a running store, and what a change makes of one file. Assumes nothing.
use Rattle.std.proofs.Common.{◌≡◌, ℕ, ◌≤◌, Bool, true, false, cond, ◌==◌, List, Some, Option, refl, sym, ap, ◌∙◌, arith}
use Rattle.std.proofs.lemmas.Bool.{eqb-true}
use mathlib.Core.Path.{fun_ext}
use Rattle.cleaning.specs.declared.adds.Counts.{Counts}
use Rattle.rules.specs.Calls.{Call}
use Rattle.rules.specs.Machine.{Step, counted, acts_of}
use Rattle.rules.specs.Mounting.{sizes_fit}
use Rattle.rules.specs.Places.{counts}
use Rattle.rules.specs.Reading.{File, Files, files}
use Rattle.rules.specs.Refusals.{Store, recs}
use Rattle.rules.specs.Right.{accepted, changed}
use Rattle.rules.specs.Runs.{Holds}
use Rattle.rules.proofs.Accepts.{mount-good}
use Rattle.rules.proofs.Whole.{steps-are-right, holding-suffices}
use Rattle.edits.specs.Creating.{Turned}

pub turned_step : (s t : Store) (call : Call) (a b : ℕ) (fs : Files) → Holds 2048 s → s.running ≡ true → Step 2048 s call (counted a b) t → ((o : ℕ) → accepted (files (recs s)) call o ≡ fs o) → Turned s fs t
turned_step s t call a b fs h on st e =
    let r = steps-are-right 2048 (omega arith) s t call (counted a b) h st in
    record { holds = r.holds'; running = ap (λ (z : Store). z.running) st.3 ∙ on; same_n = r.same_n; same_p = r.same_p; files_are = λ o. r.rightly o ∙ e o }

pub turned_none : (s : Store) (fs : Files) → Holds 2048 s → s.running ≡ true → ((o : ℕ) → files (recs s) o ≡ fs o) → Turned s fs s
turned_none s fs h on e = record { holds = h; running = on; same_n = refl; same_p = refl; files_are = e }

pub costs_few : (s t : Store) (call : Call) (a b : ℕ) → Holds 2048 s → Step 2048 s call (counted a b) t → (1 ≤ a) × (a ≤ s.p) × (b ≤ 2)
costs_few s t call a b h st =
    let k = (holding-suffices 2048 (omega arith) s h).costs call st.0 st.1 in
    let p : (counts (acts_of 2048 s.flash call)).0 ≡ a = ap (λ (z : ℕ × ℕ). z.0) st.2 in
    let e : (counts (acts_of 2048 s.flash call)).1 ≡ b = ap (λ (z : ℕ × ℕ). z.1) st.2 in
    (omega (arith, p, k), omega (arith, p, k), omega (arith, e, k))

fits-small : (n p : ℕ) → sizes_fit n p ≡ true → p ≤ 64
fits-small n p e = grind arith

pub few_chunks : (s : Store) → Holds 2048 s → s.p ≤ 64
few_chunks s h = fits-small s.n s.p (mount-good 2048 s.n s.p s.flash.blocks h.shaped h.mounts).sizes

-- what a change makes of one file
module _ (fs : Files) (o : ℕ) where
  here : (k : ℕ) → (k == o) ≡ true → fs o ≡ fs k
  here k e = ap fs (sym (eqb-true k o e))

  same-at : (f g : Option File → Option File) → f (fs o) ≡ g (fs o) → (k : ℕ) (b : Bool) → (k == o) ≡ b → cond b (f (fs k)) (fs k) ≡ cond b (g (fs k)) (fs k)
  same-at f g e k true q = ap f (sym (here k q)) ∙ e ∙ ap g (here k q)
  same-at f g e k false q = refl

  pub changed_same : (f g : Option File → Option File) → f (fs o) ≡ g (fs o) → (k : ℕ) → changed fs o f k ≡ changed fs o g k
  changed_same f g e k = same-at f g e k (k == o) refl

  none-at : (f : Option File → Option File) → f (fs o) ≡ fs o → (k : ℕ) (b : Bool) → (k == o) ≡ b → fs k ≡ cond b (f (fs k)) (fs k)
  none-at f e k true q = sym (here k q) ∙ sym e ∙ ap f (here k q)
  none-at f e k false q = refl

  pub changed_none : (f : Option File → Option File) → f (fs o) ≡ fs o → (k : ℕ) → fs k ≡ changed fs o f k
  changed_none f e k = none-at f e k (k == o) refl

  twice-at : (f g h : Option File → Option File) → f (g (fs o)) ≡ h (fs o) → (k : ℕ) (b : Bool) → (k == o) ≡ b
      → cond b (f (cond b (g (fs k)) (fs k))) (cond b (g (fs k)) (fs k)) ≡ cond b (h (fs k)) (fs k)
  twice-at f g h e k true q = ap (λ (m : Option File). f (g m)) (sym (here k q)) ∙ e ∙ ap h (here k q)
  twice-at f g h e k false q = refl

  pub changed_twice : (f g h : Option File → Option File) → f (g (fs o)) ≡ h (fs o) → (k : ℕ) → changed (changed fs o g) o f k ≡ changed fs o h k
  changed_twice f g h e k = twice-at f g h e k (k == o) refl

-- two changes of one file, one after the other
pub turned_twice : (s t u : Store) (o : ℕ) (f g h : Option File → Option File) → Turned s (changed (files (recs s)) o g) t → Turned t (changed (files (recs t)) o f) u
    → f (g (files (recs s) o)) ≡ h (files (recs s) o) → Turned s (changed (files (recs s)) o h) u
turned_twice s t u o f g h a b e = record {
  holds = b.holds;
  running = b.running;
  same_n = b.same_n ∙ a.same_n;
  same_p = b.same_p ∙ a.same_p;
  files_are = λ k. b.files_are k ∙ ap (λ (fs : Files). changed fs o f k) (fun_ext a.files_are) ∙ changed_twice (files (recs s)) o f g h e k;
}

pub same_file : (n : List ℕ) (l l' : ℕ) (p p' : ℕ → Option (List ℕ)) → l ≡ l' → ((j : ℕ) → p j ≡ p' j)
    → ◌≡◌ {A = Option File} (Some (record { name = n; long = l; part = p })) (Some (record { name = n; long = l'; part = p' }))
same_file n l l' p p' a b =
    ap (λ (x : ℕ). Some (record { name = n; long = x; part = p })) a ∙ ap (λ (q : ℕ → Option (List ℕ)). Some (record { name = n; long = l'; part = q })) (fun_ext b)

pub counts_zero : (c : Counts) → c.programs ≡ 0 → c.erases ≡ 0 → c ≡ record { programs = 0; erases = 0 }
counts_zero c a b = λ i. record { programs = a i; erases = b i }
