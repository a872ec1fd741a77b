-- Each call of a run is as the law says. Assumes nothing.
use Rattle.std.proofs.Common.{◌≡◌, ℕ, ◌<◌, ◌≤◌, List, Some, refl, inl, inr, sym, ap, ◌∙◌, subst, arith}
use Rattle.flash.specs.declared.chunks.Chunk.{Chunk}
use Rattle.rules.specs.Calls.{Call, create, put, cut, rename, delete, opens, closes, collect, mount}
use Rattle.rules.specs.Machine.{Answer, refused, counted, collected, granted, broken, Event, Step, Fills, IsCollect, Breaks, acts_of, with_flash}
use Rattle.rules.specs.Mounting.{limit}
use Rattle.rules.specs.Places.{Flash, Act, runs, counts, to_clean, clean}
use Rattle.rules.specs.Reading.{Files, files, used_by}
use Rattle.rules.specs.Refusals.{Store, recs, refusal, first_of, early_table}
use Rattle.rules.specs.Right.{accepted, after}
use Rattle.rules.specs.Runs.{Holds, Rightly}
use Rattle.rules.proofs.Tidy.{pair_is}
use Rattle.rules.proofs.Whole.{steps-are-right, holding-suffices}
use Rattle.runs.specs.Law.{OnlyContents, Writes, made, Exactly27, Says, Right}

-- the answers, one by one
refuses-only : (s t : Store) (call : Call) (answer : Answer) → Step 2048 s call answer t → (k : ℕ) → answer ≡ refused k → (refusal s call ≡ k) × (1 ≤ k)
refuses-only s t call answer st k e = (let h = subst (λ (a : Answer). Step 2048 s call a t) e st in (h.0, h.1))

refuses-all : (s t : Store) (call : Call) (answer : Answer) → Step 2048 s call answer t → (refusal s call ≡ 0 → ⊥) → answer ≡ refused (refusal s call)
refuses-all s t call (refused k) st n = ap refused (sym st.0)
refuses-all s t call (counted a b) st n = absurd (n st.1)
refuses-all s t call (collected b k) st n = absurd (n st.1)
refuses-all s t call granted st n = absurd (n st.0)
refuses-all s t call (broken x) st n = absurd (n st.0)

only-contents : (s t : Store) (f : Flash) → t ≡ with_flash s f → OnlyContents s t
only-contents s t f e = subst (OnlyContents s) (sym e) (record { same_n = refl; same_p = refl; same_power = refl; same_running = refl; same_open = refl })

collected-says : (s t : Store) (call : Call) → IsCollect call → (b k : ℕ) → Holds 2048 s → refusal s call ≡ 0 → to_clean s.flash ≡ Some (b, k)
    → t ≡ with_flash s (runs s.flash (acts_of 2048 s.flash call)) → Says s call (collected b k) t
collected-says s t collect i b k h free q e =
    let x = holding-suffices 2048 (omega arith) s h in
    let c = x.collects free in
    let same : c.0.1 ≡ k = (pair_is c.0 (b, k) (sym c.1 ∙ q)).1 in (
      tt,
      q,
      subst (λ (j : ℕ). j < s.p) same c.2,
      record { all_taken = x.takes collect free; contents = ap (λ (z : Store). z.flash) e; numbers = subst (λ (j : ℕ). counts (clean s.flash) ≡ (j, 1)) same c.3 },
      only-contents s t _ e,
    )
collected-says s t _ i b k h free q e = absurd i

-- only a change or a collect has an act at which the supply can fail
writes : (s : Store) (call : Call) (x : Act) (bs : List (List Chunk)) → Breaks s.flash (acts_of 2048 s.flash call) x bs → Writes call
writes s (create o name) x bs h = inl tt
writes s (put o j b) x bs h = inl tt
writes s (cut o n) x bs h = inl tt
writes s (rename o name) x bs h = inl tt
writes s (delete o) x bs h = inl tt
writes s (opens o) x bs h = absurd h
writes s (closes o) x bs h = absurd h
writes s collect x bs h = inr tt
writes s mount x bs h = absurd h

says : (s t : Store) (call : Call) (answer : Answer) → Holds 2048 s → Step 2048 s call answer t → Says s call answer t
says s t call (refused k) h st = st.2
says s t call (counted a b) h st =
    let k = holding-suffices 2048 (omega arith) s h in
    let c = k.costs call st.0 st.1 in
    let p : (counts (acts_of 2048 s.flash call)).0 ≡ a = ap (λ (z : ℕ × ℕ). z.0) st.2 in
    let e : (counts (acts_of 2048 s.flash call)).1 ≡ b = ap (λ (z : ℕ × ℕ). z.1) st.2 in (
      st.0,
      omega (arith, p, c),
      omega (arith, p, c),
      omega (arith, e, c),
      record { acts = acts_of 2048 s.flash call; all_taken = k.takes call st.1; contents = ap (λ (z : Store). z.flash) st.3; numbers = st.2; finds = k.finds call st.0 st.1 },
      only-contents s t _ st.3,
    )
says s t call (collected b k) h st = collected-says s t call st.0 b k h st.1 st.2 st.3
says s t call granted h st = st.1
says s t call (broken x) h st = record { writes = writes s call x t.flash.blocks st.1; acts = acts_of 2048 s.flash call; all_taken = (holding-suffices 2048 (omega arith) s h).takes call st.0; contents = st.1; stopped = st.2 }

-- one call: what the law says of it follows from the rules' step
module _ (s t : Store) (call : Call) (answer : Answer) (h : Holds 2048 s) (st : Step 2048 s call answer t) (rights : Files) (same : files (recs s) ≡ rights) where
  abbrev pub event : Event
  event = record { call = call; answer = answer; after = t }

  pub next : Rightly 2048 s call answer t
  next = steps-are-right 2048 (omega arith) s t call answer h st

  is-27 : refusal s call ≡ 27 → answer ≡ refused 27
  is-27 e = subst (λ (k : ℕ). answer ≡ refused k) e (refuses-all s t call answer st (λ q. grind arith))

  exactly : Fills call → first_of (early_table s call) ≡ 0 → Exactly27 rights s event
  exactly f e =
      let k = (holding-suffices 2048 (omega arith) s h).only27 call f e in
      record {
        only = λ q. subst (λ (fs : Files). limit s.n s.p < used_by (accepted fs call)) same (k.0 (refuses-only s t call answer st 27 q).0);
        always = λ l. is-27 (k.1 (subst (λ (fs : Files). limit s.n s.p < used_by (accepted fs call)) (sym same) l));
      }

  pub files-now : (o : ℕ) → files (recs t) o ≡ after rights (made s event) o
  files-now o = subst (λ (fs : Files). files (recs t) o ≡ after fs (made s event) o) same (next.rightly o)

  pub right-now : Right rights s event
  right-now = record {
    refuses = refuses-only s t call answer st;
    refused' = refuses-all s t call answer st;
    says = says s t call answer h st;
    files_are_right = files-now;
    mount_accepts = next.holds'.mounts;
    exactly27 = exactly;
  }
