-- An open file cut to a length that may be no shorter. Assumes nothing.
use Rattle.std.proofs.Common.{◌≡◌, ◌≢◌, ℕ, ◌≤◌, ◌<◌, min, Bool, true, false, not, cond, List, [], ◌∷◌, Some, None, Option, Ok, Err, Result, nat_le, nat_lt, refl, sym, ap, ◌∙◌, subst, inl, inr, arith}
use Rattle.flash.specs.declared.chunks.Record.{Record}
use Rattle.flash.specs.declared.faults.Fault.{Fault}
use Rattle.flash.specs.declared.faults.Fault.TheVariants.{Off, NoSuchPlace, NotBlank, SupplyFailed, NoRecord}
use Rattle.flash.specs.Faults.{told as fault_told}
use Rattle.cleaning.specs.declared.adds.Counts.{Counts}
use Rattle.rules.specs.Calls.{cut, long_of}
use Rattle.rules.specs.Lists.{is_there}
use Rattle.rules.specs.Machine.{Step, counted}
use Rattle.rules.specs.Reading.{File, files, chunk, bytes_in}
use Rattle.rules.specs.Refusals.{Store, recs, refusal, first_of, no_serial}
use Rattle.rules.specs.Right.{shortened}
use Rattle.rules.specs.Runs.{Holds}
use Rattle.rules.proofs.Adding.{data-number}
use Rattle.rules.proofs.Filed.{file-at, chunk-at}
use Rattle.rules.proofs.Removal.{highest-most}
use Rattle.scan.specs.declared.refusals.Refusal.{Refusal}
use Rattle.scan.specs.declared.refusals.Refusal.TheVariants.{Chip, NotShorter}
use Rattle.scan.specs.Refusals.{told}
use Rattle.store.specs.Changes.{Changed}
use Rattle.writing.specs.Writing.{act_told}
use Rattle.edits.specs.Writing.{Spares, Trims, trimmed}
use Rattle.edits.proofs.Turning.{turned_step, turned_none, costs_few, changed_same, changed_none, same_file}

-- 25 is that of one refusal alone
fault-not : (f : Fault) → (fault_told f).0 ≢ 25
fault-not Off = omega arith
fault-not NoSuchPlace = omega arith
fault-not NotBlank = omega arith
fault-not (SupplyFailed a) = omega arith
fault-not NoRecord = omega arith

pub is_25 : (e : Refusal) → (told e).0 ≡ 25 → e ≡ NotShorter
is_25 NotShorter q = refl
is_25 (Chip f) q = absurd (fault-not f q)
is_25 e q = absurd (omega (arith, q))

-- what the rules make of a file's chunks: none is numbered 0, and none is above the length
module _ (rs : List Record) (o : ℕ) (f : File) (is : files rs o ≡ Some f) where
  part-none : (j : ℕ) (m : Option Record) → chunk rs o j ≡ m → ((d : Record) → chunk rs o j ≡ Some d → ⊥) → f.part j ≡ None
  part-none j None e n = (file-at rs o f is).part' j ∙ ap bytes_in e
  part-none j (Some d) e n = absurd (n d e)

  pub none_at_0 : f.part 0 ≡ None
  none_at_0 = part-none 0 (chunk rs o 0) refl (λ d e. let h = (chunk-at rs o 0 d e).data' in let k = data-number d h.isdata in omega (arith, k, h.at))

  pub none_above : (j : ℕ) → f.long < j → f.part j ≡ None
  none_above j l = part-none j (chunk rs o j) refl (λ d e. let h = highest-most rs o j (ap is_there e) in let k = (file-at rs o f is).long' in omega (arith, h, k, l))

-- a file no longer than n
kept-at : (p : ℕ → Option (List ℕ)) (j n : ℕ) (b : Bool) → nat_le j n ≡ b → (nat_le j n ≡ false → p j ≡ None) → cond b (p j) None ≡ p j
kept-at p j n true e h = refl
kept-at p j n false e h = sym (h e)

not-le : (j n : ℕ) → nat_le j n ≡ false → n < j
not-le j n e = grind arith

is-le : (j n : ℕ) → nat_le j n ≡ true → j ≤ n
is-le j n e = grind arith

short-enough : (rs : List Record) (o n : ℕ) (m : Option File) → files rs o ≡ m → nat_le (long_of m) n ≡ true → trimmed n m ≡ m
short-enough rs o n None e h = refl
short-enough rs o n (Some f) e h =
    let l : f.long ≤ n = is-le f.long n h in
    same_file f.name (min f.long n) f.long _ f.part (omega (arith, l)) (λ j. kept-at f.part j n (nat_le j n) refl (λ q. none_above rs o f e j (let k = not-le j n q in omega (arith, k, l))))

cut-so : (n : ℕ) (m : Option File) → nat_le (long_of m) n ≡ false → shortened n m ≡ trimmed n m
cut-so n None e = refl
cut-so n (Some f) e = same_file f.name n (min f.long n) _ _ (let k = not-le f.long n e in omega (arith, k)) (λ j. refl)

cuts-table : (r big op le se : Bool) → r ≡ true → big ≡ false → op ≡ true → first_of ((15, not r) ∷ (17, big) ∷ (24, not op) ∷ (25, le) ∷ (26, se) ∷ []) ≡ first_of ((25, le) ∷ (26, se) ∷ [])
cuts-table r big op le se a b c = rw (a, b, c) refl

le-1000 : (n : ℕ) → n ≤ 1000 → nat_lt 1000 n ≡ false
le-1000 n h = grind arith

free-le : (le se : Bool) → first_of ((25, le) ∷ (26, se) ∷ []) ≡ 0 → le ≡ false
free-le true se e = absurd (omega (arith, e))
free-le false se e = refl

is-short : (le se : Bool) → first_of ((25, le) ∷ (26, se) ∷ []) ≡ 25 → le ≡ true
is-short true se e = refl
is-short false true e = absurd (omega (arith, e))
is-short false false e = absurd (omega (arith, e))

is-26 : (le se : Bool) → 1 ≤ first_of ((25, le) ∷ (26, se) ∷ []) → first_of ((25, le) ∷ (26, se) ∷ []) ≢ 25 → first_of ((25, le) ∷ (26, se) ∷ []) ≡ 26
is-26 true se h n = absurd (n refl)
is-26 false true h n = refl
is-26 false false h n = absurd (omega (arith, h))

module _ (s t : Store) (o n : ℕ) (h : Holds 2048 s) (on : s.running ≡ true) (lent : s.opened o ≡ true) (few : n ≤ 1000) where
  abbrev le : Bool
  le = nat_le (long_of (files (recs s) o)) n

  table : refusal s (cut o n) ≡ first_of ((25, le) ∷ (26, no_serial (recs s)) ∷ [])
  table = cuts-table s.running (nat_lt 1000 n) (s.opened o) le (no_serial (recs s)) on (le-1000 n few) lent

  pub trim_cut : (c : Counts) → Step 2048 s (cut o n) (counted c.programs c.erases) t → Trims s o n (Ok c) t
  trim_cut c st =
      let k = costs_few s t (cut o n) c.programs c.erases h st in
      let long : le ≡ false = free-le le (no_serial (recs s)) (sym table ∙ st.1) in (
        turned_step s t (cut o n) c.programs c.erases _ h on st (changed_same (files (recs s)) o (shortened n) (trimmed n) (cut-so n (files (recs s) o) long)),
        ap (λ (z : Store). z.opened) st.3,
        k.1,
        k.2,
      )

  number-is : (e : Refusal) → told e ≡ (refusal s (cut o n), []) → (told e).0 ≡ first_of ((25, le) ∷ (26, no_serial (recs s)) ∷ [])
  number-is e q = ap (λ (z : ℕ × List ℕ). z.0) q ∙ table

  pub trim_err : (e : Refusal) (r : Result Counts Refusal) → Changed s (cut o n) (Err e) t → Spares e r → Trims s o n r t
  trim_err e (Ok c) (inl r) sp =
      let short : le ≡ true = is-short le (no_serial (recs s)) (sym (number-is e r.number) ∙ sp.0) in
      let same : t ≡ s = r.step.2 in
      subst (λ (z : Store). Trims s o n (Ok c) z) (sym same) (
        turned_none s _ h on (changed_none (files (recs s)) o (trimmed n) (short-enough (recs s) o n (files (recs s) o) refl short)),
        refl,
        subst (λ (z : Counts). z.programs ≤ s.p) (sym sp.1) (omega arith),
        subst (λ (z : Counts). z.erases ≤ 2) (sym sp.1) (omega arith),
      )
  trim_err e (Err x) (inl r) sp =
      let same : t ≡ s = r.step.2 in
      let q = number-is e r.number in
      let k = is-26 le (no_serial (recs s)) (subst (λ (i : ℕ). 1 ≤ i) table r.step.1) (λ z. sp.0 (q ∙ z)) in (
        inl (ap told sp.1 ∙ r.number ∙ ap (λ (i : ℕ). (i, [])) (table ∙ k)),
        ap (λ (z : Store). z.opened) same,
      )
  trim_err e (Ok c) (inr b) sp = absurd (fault-not (SupplyFailed (act_told b.act)) (sym (ap (λ (z : Refusal). (told z).0) b.names) ∙ sp.0))
  trim_err e (Err x) (inr b) sp = (inr (_, sp.1 ∙ b.names), b.step.2.same_open)
