-- When the files with a file created, or a chunk put, would use more than they may. Assumes nothing.
use Rattle.std.proofs.Common.{◌≡◌, ℕ, ◌+◌, ◌≤◌, Bool, true, false, cond, not, ◌&&◌, leb, ltb, List, Some, None, Option, sym, refl, ap, ◌∙◌, arith}
use Rattle.std.proofs.lemmas.Bool.{both_ways, and_parts, leb-true}
use Rattle.std.proofs.lemmas.Bool.Decides.{nat_tests}
use Rattle.rules.specs.Calls.{create, put}
use Rattle.rules.specs.Lists.{is_there, within}
use Rattle.rules.specs.Mounting.{limit, verdict}
use Rattle.rules.specs.Reading.{File, files, chunk, present, used_of, used_by}
use Rattle.rules.specs.Refusals.{Store, recs, too_many}
use Rattle.rules.specs.Right.{changed, fresh, with_part}
use Rattle.rules.proofs.Accepts.{file-range}
use Rattle.rules.proofs.Filed.{there-some, file-at, present-file, bytes-there}
use Rattle.checks.proofs.Accepted.{accepted-from}
use Rattle.checks.proofs.Uses.{used_by-changed, used_of-fresh, used_of-with_part}

one-more : (l a b : ℕ) → b ≡ a + 1 → ltb l b ≡ leb l a
one-more l a b e = grind (arith, nat_tests)

one-if : (l a b : ℕ) (t : Bool) → a ≤ l → b ≡ a + cond t 0 1 → ltb l b ≡ (not t && leb l a)
one-if l a b true h e = grind (arith, nat_tests)
one-if l a b false h e = grind (arith, nat_tests)

module _ (st : Store) (o : ℕ) where
  absent : (m : Option File) → present (recs st) o ≡ false → files (recs st) o ≡ m → used_of m ≡ 0
  unfolding used_of
  absent None e p = refl
  absent (Some f) e p = absurd (both_ways (present (recs st) o) e (present-file (recs st) o ∙ ap is_there p))

  pub on_create : (name : List ℕ) → within 257 511 o ≡ true → present (recs st) o ≡ false → too_many st (create o name) ≡ leb (limit st.n st.p) (used_by (files (recs st)))
  on_create name w e =
      let fs = files (recs st) in
      let a = and_parts (leb 257 o) (leb o 511) w in
      let u = used_by-changed fs o (fresh name) (leb-true 257 o a.0) (leb-true o 511 a.1) in
      one-more (limit st.n st.p) (used_by fs) (used_by (changed fs o (fresh name))) (omega (arith, u, absent (fs o) e refl, used_of-fresh name (fs o)))

  pub on_put : (j : ℕ) (bs : List ℕ) → verdict st.n st.p st.flash.blocks ≡ None → within 1 1000 j ≡ true → present (recs st) o ≡ true
      → too_many st (put o j bs) ≡ (not (is_there (chunk (recs st) o j)) && leb (limit st.n st.p) (used_by (files (recs st))))
  on_put j bs v w e =
      let fs = files (recs st) in
      let c = is_there (chunk (recs st) o j) in
      let ok = accepted-from st.n st.p st.flash.blocks v in
      let f = there-some (fs o) (sym (present-file (recs st) o) ∙ e) in
      let a = file-range (recs st) ok.rules o f.0 f.1 in
      let b = and_parts (leb 1 j) (leb j 1000) w in
      let u = used_by-changed fs o (with_part j bs) a.0 a.1 in
      let p : is_there (f.0.part j) ≡ c = ap is_there ((file-at (recs st) o f.0 f.1).part' j) ∙ bytes-there (chunk (recs st) o j) in
      let q : used_of (with_part j bs (fs o)) ≡ used_of (fs o) + cond c 0 1 =
      ap (λ (m : Option File). used_of (with_part j bs m)) f.1
      ∙ used_of-with_part j bs f.0 (leb-true 1 j b.0) (leb-true j 1000 b.1)
      ∙ ap (λ (t : Bool). used_of (Some f.0) + cond t 0 1) p
      ∙ ap (λ (m : Option File). used_of m + cond c 0 1) (sym f.1) in
      one-if (limit st.n st.p) (used_by fs) (used_by (changed fs o (with_part j bs))) c ok.room (omega (arith, u, q))
