-- The object of the file of a name, found or created. Assumes nothing.
use Rattle.std.proofs.Common.{◌≡◌, ℕ, zero, suc, ◌+◌, ◌≤◌, ◌<◌, Bool, true, false, not, ◌&&◌, cond, ◌==◌, ◌⊎◌, List, [], ◌∷◌, Some, None, Option, Ok, Err, Result, refl, sym, ap, ◌∙◌, subst, inl, inr, arith}
use Rattle.std.proofs.lemmas.Bool.{both_ways, eqb-true, eqb-false}
use Rattle.std.specs.Result.{is_ok}
use Rattle.cleaning.specs.declared.adds.Counts.{Counts}
use Rattle.questions.specs.Questions.{Answered, OfFile}
use Rattle.rules.specs.Calls.{create, up_from, objects, find_in, find}
use Rattle.rules.specs.Lists.{within, is_there, same_bytes}
use Rattle.rules.specs.Machine.{Step, counted}
use Rattle.rules.specs.Reading.{File, Files, files, named, present, name_taken, any_up, any_object}
use Rattle.rules.specs.Refusals.{Store, recs, refusal, first_of, size_table, find_table, no_object, no_name, no_serial, too_many}
use Rattle.rules.specs.Right.{fresh}
use Rattle.rules.specs.Runs.{Holds}
use Rattle.rules.proofs.Checks.{clear-all}
use Rattle.rules.proofs.Filed.{present-file, some_is}
use Rattle.scan.specs.declared.refusals.Refusal.{Refusal}
use Rattle.scan.specs.declared.refusals.Refusal.TheVariants.{BadObject}
use Rattle.scan.specs.Refusals.{told}
use Rattle.store.specs.Changes.{Refused, Broken}
use Rattle.files.proofs.Finding.{found_object}
use Rattle.edits.specs.Puts.{IsObjectFor, IsLowest, AllTaken, Unmade}
use Rattle.edits.specs.Creating.{called, Made}
use Rattle.edits.proofs.Refusing.{some_number}
use Rattle.edits.proofs.Turning.{turned_step, turned_none, costs_few, changed_same, changed_none}

-- a file that is there has its size told; one that is not is refused
there-at : (r w pr : Bool) → first_of ((15, not r) ∷ (16, not w) ∷ (20, not pr) ∷ []) ≡ 0 → true ≡ (w && pr)
there-at true true true e = refl
there-at true true false e = absurd (omega (arith, e))
there-at true false pr e = absurd (omega (arith, e))
there-at false w pr e = absurd (omega (arith, e))

none-there : (r w pr : Bool) → r ≡ true → 1 ≤ first_of ((15, not r) ∷ (16, not w) ∷ (20, not pr) ∷ []) → false ≡ (w && pr)
none-there true false pr e h = refl
none-there true true false e h = refl
none-there true true true e h = absurd (omega (arith, h))
none-there false w pr e h = absurd (both_ways false refl e)

pub has_so : {A : Type 0} (s : Store) (o : ℕ) (r : Result A Refusal) (P : A → File → Type 0) → s.running ≡ true → Answered (size_table s o) r (λ x. OfFile s o (P x)) (Unit {0})
    → is_ok r ≡ (within 257 511 o && is_there (files (recs s) o))
has_so s o (Ok x) P on h = there-at s.running (within 257 511 o) (present (recs s) o) h.0 ∙ ap (λ (b : Bool). within 257 511 o && b) (present-file (recs s) o)
has_so s o (Err e) P on h =
    let some : 1 ≤ first_of (size_table s o) = subst (λ (i : ℕ). 1 ≤ i) (ap (λ (z : ℕ × List ℕ). z.0) h.0) (some_number e) in
    none-there s.running (within 257 511 o) (present (recs s) o) on some ∙ ap (λ (b : Bool). within 257 511 o && b) (present-file (recs s) o)

-- the lowest
both-true : (a b : Bool) → (a && b) ≡ true → b ≡ true
both-true true b e = e
both-true false b e = absurd (both_ways false refl e)

none-of : (m : Option File) → is_there m ≡ false → m ≡ None
none-of None e = refl
none-of (Some f) e = absurd (both_ways true e refl)

real-at : (o : ℕ) → 257 ≤ o → o < 512 → within 257 511 o ≡ true
real-at o a b = grind arith

in-range : (o : ℕ) → within 257 511 o ≡ true → (257 ≤ o) × (o < 512)
in-range o e = grind arith

pub lowest_here : (fs : Files) (o : ℕ) → 257 ≤ o → o < 512 → ((k : ℕ) → 257 ≤ k → k < o → is_there (fs k) ≡ true) → (within 257 511 o && is_there (fs o)) ≡ false → IsLowest fs o
lowest_here fs o a b below e = record { real = real-at o a b; free = none-of (fs o) (ap (λ (c : Bool). c && is_there (fs o)) (sym (real-at o a b)) ∙ e); below = below }

pub one_below : (fs : Files) (o : ℕ) → ((k : ℕ) → 257 ≤ k → k < o → is_there (fs k) ≡ true) → (within 257 511 o && is_there (fs o)) ≡ true → (k : ℕ) → 257 ≤ k → k < o + 1 → is_there (fs k) ≡ true
one_below fs o below e k a b = one-at (k == o) refl
  where
    one-at : (c : Bool) → (k == o) ≡ c → is_there (fs k) ≡ true
    one-at true q = subst (λ (j : ℕ). is_there (fs j) ≡ true) (sym (eqb-true k o q)) (both-true (within 257 511 o) _ e)
    one-at false q = below k a (let ne = eqb-false k o q in omega (arith, b, ne))

pub all_taken : (fs : Files) → ((k : ℕ) → 257 ≤ k → k < 512 → is_there (fs k) ≡ true) → AllTaken fs
all_taken fs below k e = below k (in-range k e).0 (in-range k e).1

-- a file found has the name
bytes-true : (xs ys : List ℕ) → same_bytes xs ys ≡ true → xs ≡ ys
bytes-true [] [] e = refl
bytes-true (x ∷ xs) (y ∷ ys) e = grind (arith, bytes-true xs ys)
bytes-true _ _ e = cc

pub record NamedSo (name : List ℕ) (m : Option File) : Type 0 where
  pub file : File
  pub is : m ≡ Some file
  pub called' : file.name ≡ name

file-named : (m : Option File) (name : List ℕ) → named name m ≡ true → NamedSo name m
file-named None name e = absurd (both_ways false refl e)
file-named (Some f) name e = record { file = f; is = refl; called' = bytes-true f.name name e }

module _ (fs : Files) (name : List ℕ) where
  named-at : (o i : ℕ) (later : Option ℕ) (b : Bool) → named name (fs i) ≡ b → (later ≡ Some o → named name (fs o) ≡ true) → cond b (Some i) later ≡ Some o → named name (fs o) ≡ true
  named-at o i later true n next e = subst (λ (j : ℕ). named name (fs j) ≡ true) (some_is i o e) n
  named-at o i later false n next e = next e

  named-in : (o k i : ℕ) → find_in fs name (up_from i k) ≡ Some o → named name (fs o) ≡ true
  named-in o zero i e = absurd cc
  named-in o (suc k) i e = named-at o i _ (named name (fs i)) refl (named-in o k (suc i)) e

  -- no file has a name that is not found
  unnamed-at : (i : ℕ) (later : Option ℕ) (b : Bool) → cond b (Some i) later ≡ None → (b ≡ false) × (later ≡ None)
  unnamed-at i later true e = absurd cc
  unnamed-at i later false e = (refl, e)

  unnamed-in : (k i : ℕ) → find_in fs name (up_from i k) ≡ None → (o : ℕ) → i ≤ o → o < i + k → named name (fs o) ≡ false
  unnamed-in zero i e o a b = absurd (omega (arith, a, b))
  unnamed-in (suc k) i e o a b =
      let h = unnamed-at i _ (named name (fs i)) e in
      unnamed-here (o == i) refl h.0 (λ l. unnamed-in k (suc i) h.1 o l (omega (arith, b)))
    where
      unnamed-here : (c : Bool) → (o == i) ≡ c → named name (fs i) ≡ false → (suc i ≤ o → named name (fs o) ≡ false) → named name (fs o) ≡ false
      unnamed-here true q n later = subst (λ (j : ℕ). named name (fs j) ≡ false) (sym (eqb-true o i q)) n
      unnamed-here false q n later = later (let ne = eqb-false o i q in omega (arith, a, ne))

  found_named : (o : ℕ) → find fs name ≡ Some o → NamedSo name (fs o)
  unfolding find objects
  found_named o e = file-named (fs o) name (named-in o 255 257 e)

  unnamed : find fs name ≡ None → (o : ℕ) → 257 ≤ o → o < 512 → named name (fs o) ≡ false
  unfolding find objects
  unnamed e o a b = unnamed-in 255 257 e o a b

any-none : (t : ℕ → Bool) (k : ℕ) → ((j : ℕ) → j < k → t (257 + j) ≡ false) → any_up t k ≡ false
any-none t zero h = refl
any-none t (suc k) h = let a = h k (omega arith) in let b = any-none t k (λ j l. h j (omega (arith, l))) in rw (a, b) refl

and-none : (a b : Bool) → b ≡ false → (a && b) ≡ false
and-none true b e = e
and-none false b e = refl

untaken : (fs : Files) (o : ℕ) (name : List ℕ) → find fs name ≡ None → name_taken fs o name ≡ false
unfolding name_taken any_object
untaken fs o name e = any-none (λ k. not (k == o) && named name (fs k)) 255 (λ j l. and-none (not ((257 + j) == o)) (named name (fs (257 + j))) (unnamed fs name e (257 + j) (omega arith) (omega (arith, l))))

-- found
called-same : (name : List ℕ) (m : Option File) → NamedSo name m → called name m ≡ m
called-same name m n = rw n.is (ap (λ (x : List ℕ). Some (record { name = x; long = n.file.long; part = n.file.part })) (sym n.called'))

pub made_found : (s : Store) (name : List ℕ) (o : ℕ) → Holds 2048 s → s.running ≡ true → Some o ≡ find (files (recs s)) name → Made s name o (record { programs = 0; erases = 0 }) s
made_found s name o h on e = record {
  real = (found_object (recs s) name o (sym e)).0;
  which = subst (λ (m : Option ℕ). IsObjectFor (files (recs s)) m o) e refl;
  turned = turned_none s _ h on (changed_none (files (recs s)) o (called name) (called-same name _ (found_named (files (recs s)) name o (sym e))));
  opened' = refl;
  programs = omega arith;
  erases = omega arith;
}

-- created
called-fresh : (name : List ℕ) (m : Option File) → m ≡ None → fresh name m ≡ called name m
called-fresh name m e = rw e refl

pub made_new : (s t : Store) (name : List ℕ) (o : ℕ) (c : Counts) → Holds 2048 s → s.running ≡ true → None ≡ find (files (recs s)) name → IsLowest (files (recs s)) o
    → Step 2048 s (create o name) (counted c.programs c.erases) t → Made s name o c t
made_new s t name o c h on e low st =
    let k = costs_few s t (create o name) c.programs c.erases h st in
    record {
      real = low.real;
      which = subst (λ (m : Option ℕ). IsObjectFor (files (recs s)) m o) e low;
      turned = turned_step s t (create o name) c.programs c.erases _ h on st (changed_same (files (recs s)) o (fresh name) (called name) (called-fresh name (files (recs s) o) low.free));
      opened' = ap (λ (z : Store). z.opened) st.3;
      programs = k.1;
      erases = k.2;
    }

-- refused
two-left : (se tm : Bool) → 1 ≤ first_of ((26, se) ∷ (27, tm) ∷ []) → (first_of ((26, se) ∷ (27, tm) ∷ []) ≡ 26) ⊎ (first_of ((26, se) ∷ (27, tm) ∷ []) ≡ 27)
two-left true tm h = inl refl
two-left false true h = inr refl
two-left false false h = absurd (omega (arith, h))

creates-table : (r ob nn pr tk se tm : Bool) → r ≡ true → ob ≡ false → nn ≡ false → pr ≡ false → tk ≡ false
    → first_of ((15, not r) ∷ (16, ob) ∷ (19, nn) ∷ (21, pr) ∷ (22, tk) ∷ (26, se) ∷ (27, tm) ∷ []) ≡ first_of ((26, se) ∷ (27, tm) ∷ [])
creates-table r ob nn pr tk se tm a b c d e = rw (a, b, c, d, e) refl

unmade-by : (fs : Files) (name : List ℕ) (e : Refusal) (k : ℕ) → told e ≡ (k, []) → (k ≡ 26) ⊎ (k ≡ 27) → Unmade fs name e
unmade-by fs name e k q (inl h) = inr (inr (inr (inl (q ∙ ap (λ (i : ℕ). (i, [])) h))))
unmade-by fs name e k q (inr h) = inr (inr (inl (q ∙ ap (λ (i : ℕ). (i, [])) h)))

pub not_new : (s t : Store) (name : List ℕ) (o : ℕ) (e : Refusal) → s.running ≡ true → first_of (find_table s name) ≡ 0 → None ≡ find (files (recs s)) name → IsLowest (files (recs s)) o
    → Refused s (create o name) e t ⊎ Broken s (create o name) e t → Unmade (files (recs s)) name e
not_new s t name o e on free none low (inl r) =
    let named' : no_name name ≡ false = (clear-all (find_table s name) (omega arith) free).1.0 in
    let absent : present (recs s) o ≡ false = present-file (recs s) o ∙ ap is_there low.free in
    let q : refusal s (create o name) ≡ first_of ((26, no_serial (recs s)) ∷ (27, too_many s (create o name)) ∷ [])
    = creates-table s.running (no_object o) (no_name name) (present (recs s) o) (name_taken (files (recs s)) o name) (no_serial (recs s)) (too_many s (create o name)) on (ap not low.real) named' absent (untaken (files (recs s)) o name (sym none)) in
    unmade-by (files (recs s)) name e _ (r.number ∙ ap (λ (i : ℕ). (i, [])) q) (two-left (no_serial (recs s)) (too_many s (create o name)) (subst (λ (i : ℕ). 1 ≤ i) q r.step.1))
not_new s t name o e on free none low (inr b) = inr (inr (inr (inr (_, b.names))))

find-left : (nn : Bool) (r : Bool) → r ≡ true → 1 ≤ first_of ((15, not r) ∷ (19, nn) ∷ []) → (first_of ((15, not r) ∷ (19, nn) ∷ []) ≡ 19) × (nn ≡ true)
find-left true true e h = (refl, refl)
find-left false true e h = absurd (omega (arith, h))
find-left nn false e h = absurd (both_ways false refl e)

pub not_found : (s : Store) (name : List ℕ) (e : Refusal) → s.running ≡ true → told e ≡ (first_of (find_table s name), []) → Unmade (files (recs s)) name e
not_found s name e on q =
    let some : 1 ≤ first_of (find_table s name) = subst (λ (i : ℕ). 1 ≤ i) (ap (λ (z : ℕ × List ℕ). z.0) q) (some_number e) in
    let h = find-left (no_name name) s.running on some in
    inl (q ∙ ap (λ (i : ℕ). (i, [])) h.0, h.1)

pub none_free : (fs : Files) (name : List ℕ) (e : Refusal) → None ≡ find fs name → (e ≡ BadObject) × AllTaken fs → Unmade fs name e
none_free fs name e none h = inr (inl (record { number = ap told h.0; none = sym none; all = h.1 }))
