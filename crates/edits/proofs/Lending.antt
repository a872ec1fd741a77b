-- A file opened for one cut, and closed after it. Assumes nothing.
use Rattle.std.proofs.Common.{◌≡◌, ℕ, ◌≤◌, Bool, true, false, not, cond, List, [], ◌∷◌, Ok, Err, Result, refl, sym, ap, ◌∙◌, subst, inl, inr, arith}
use Rattle.image.specs.Format.{image_of}
use Rattle.cleaning.specs.declared.adds.Counts.{Counts}
use Rattle.rules.specs.Calls.{cut, opens, closes}
use Rattle.rules.specs.Machine.{Step, granted, opening}
use Rattle.rules.specs.Reading.{present}
use Rattle.rules.specs.Refusals.{Store, recs, refusal, first_of, no_object}
use Rattle.rules.specs.Right.{accepted}
use Rattle.scan.specs.declared.refusals.Refusal.{Refusal}
use Rattle.store.specs.Changes.{Changed}
use Rattle.store.specs.Opening.{Closed}
use Rattle.texts.specs.declared.stops.Stop.TheVariants.{Store as Of}
use Rattle.files.specs.Answers.{files_on}
use Rattle.edits.specs.Edits.{NotEdited}
use Rattle.edits.specs.Lending.{Lent}
use Rattle.edits.specs.Tables.{cut_table}
use Rattle.edits.proofs.Over.{Over, Start, over_changed, over_opens, over_closes, costs_little}
use Rattle.edits.proofs.Refusing.{Found, cut_refusal, change_not}

-- a cut leaves open files open
cut-open : (u v : Store) (o n : ℕ) (r : Result Counts Refusal) → Changed u (cut o n) r v → v.opened ≡ u.opened
cut-open u v o n (Ok c) h = ap (λ (z : Store). z.opened) h.3
cut-open u v o n (Err e) (inl h) = ap (λ (z : Store). z.opened) h.step.2
cut-open u v o n (Err e) (inr h) = h.step.2.same_open

opened-self : (o : ℕ) (held : ℕ → Bool) → opening o held o ≡ true
opened-self o held = grind arith

pub opened_now : (s u : Store) (o : ℕ) → Step 2048 s (opens o) granted u → u.opened o ≡ true
opened_now s u o h = ap (λ (z : Store). z.opened o) h.1 ∙ opened-self o s.opened

never-refused : (b : Bool) → b ≡ true → 1 ≤ cond (not b) 24 0 → ⊥
never-refused b e h = grind arith

-- so the file can be closed
pub closes_open : (v t : Store) (o : ℕ) (e : Refusal) → v.opened o ≡ true → Closed v o (Err e) t → ⊥
closes_open v t o e q c = never-refused (v.opened o) q c.step.1

pub closes_again : (s u v t : Store) (o k n : ℕ) (r : Result Counts Refusal) (e : Refusal) → k ≡ o → Step 2048 s (opens o) granted u → Changed u (cut k n) r v → Closed v k (Err e) t → ⊥
closes_again s u v t o k n r e same a b c =
    closes_open v t o e (ap (λ (os : ℕ → Bool). os o) (cut-open u v k n r b) ∙ opened_now s u o a) (subst (λ (j : ℕ). Closed v j (Err e) t) same c)

lent-all : (s u v t : Store) (o n : ℕ) (r : Result Counts Refusal) → Step 2048 s (opens o) granted u → Changed u (cut o n) r v → Step 2048 v (closes o) granted t → Lent s o (cut o n) r t
lent-all s u v t o n (Ok x) a b c = record { before = u; after = v; opened' = a; changed = b; closed = c }
lent-all s u v t o n (Err e) a b c = inr (record { before = u; after = v; opened' = a; changed = b; closed = c })

pub lent_so : (s u v t : Store) (o k n : ℕ) (r : Result Counts Refusal) → k ≡ o → Step 2048 s (opens o) granted u → Changed u (cut k n) r v → Step 2048 v (closes k) granted t → Lent s o (cut o n) r t
lent_so s u v t o k n r same a b c = lent-all s u v t o n r a (subst (λ (j : ℕ). Changed u (cut j n) r v) same b) (subst (λ (j : ℕ). Step 2048 v (closes j) granted t) same c)

-- a file that is there, and not open, can be opened
pub opens_table : (r ob pr op : Bool) → r ≡ true → ob ≡ false → pr ≡ true → op ≡ false → first_of ((15, not r) ∷ (16, ob) ∷ (20, not pr) ∷ (23, op) ∷ []) ≡ 0
opens_table r ob pr op a b c d = rw (a, b, c, d) refl

pub opens_free : (xs name : List ℕ) (s : Store) (o : ℕ) → Start xs s → Found xs name s o → refusal s (opens o) ≡ 0
opens_free xs name s o st f = opens_table s.running (no_object o) (present (recs s) o) (s.opened o) st.over.running f.real f.there (st.closed o)

module _ (xs name : List ℕ) (s t : Store) (o n : ℕ) (st : Start xs s) (f : Found xs name s o) where
  -- the same records stand when it is open
  refusal-there : (u : Store) → Step 2048 s (opens o) granted u → refusal u (cut o n) ≡ first_of (cut_table xs name n)
  refusal-there u h = cut_refusal xs name s o st f u n (ap (λ (z : Store). z.running) h.1 ∙ st.over.running) (opened_now s u o h) (ap recs h.1)

  pub lent_not : (e : Refusal) → Lent s o (cut o n) (Err e) t → NotEdited xs (cut_table xs name n) (Of e)
  lent_not e (inl r) = let q = r.step.1 in let free = opens_free xs name s o st f in absurd (omega (arith, q, free))
  lent_not e (inr b) = change_not xs (cut_table xs name n) b.before b.after (cut o n) e st.accepted' (refusal-there b.before b.opened') b.changed

  module _ (c : Counts) (b : Lent s o (cut o n) (Ok c) t) where
    over-before : Over xs (files_on xs) b.before
    over-before = over_opens xs (files_on xs) s b.before st.over o b.opened'

    pub lent_free : first_of (cut_table xs name n) ≡ 0
    lent_free = sym (refusal-there b.before b.opened') ∙ b.changed.1

    pub lent_over : Over xs (accepted (files_on xs) (cut o n)) t
    lent_over = over_closes xs _ b.after t (over_changed xs (files_on xs) b.before b.after over-before (cut o n) c.programs c.erases b.changed) o b.closed

    pub lent_cheap : (1 ≤ c.programs) × (c.programs ≤ (image_of xs).p) × (c.erases ≤ 2)
    lent_cheap = costs_little xs (files_on xs) b.before b.after over-before (cut o n) c.programs c.erases b.changed
