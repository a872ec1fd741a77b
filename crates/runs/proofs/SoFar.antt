-- A run so far, and one call more. Assumes nothing.
use Rattle.std.proofs.Common.{◌≡◌, List, [], ◌∷◌, ◌++◌, map, refl, sym, ap, ◌∙◌, subst}
use mathlib.Core.Path.{fun_ext}
use Rattle.rules.specs.Calls.{Call}
use Rattle.rules.specs.Machine.{Answer, Event, Step, Run, last_of, made_of}
use Rattle.rules.specs.Reading.{Files, files}
use Rattle.rules.specs.Refusals.{Store, recs}
use Rattle.rules.specs.Right.{after, right}
use Rattle.rules.specs.Runs.{Holds}
use Rattle.runs.specs.Law.{made, Right, AllRight, AllTell, Law}
use Rattle.runs.proofs.Lawful.{event, next, files-now, right-now}

last-more : (s : Store) (es : List Event) (e : Event) → last_of s (es ++ e ∷ []) ≡ e.after
last-more s [] e = refl
last-more s (x ∷ es) e = last-more x.after es e

calls-more : (es : List Event) (e : Event) → map (λ (x : Event). x.call) (es ++ e ∷ []) ≡ map (λ (x : Event). x.call) es ++ e.call ∷ []
calls-more [] e = refl
calls-more (x ∷ es) e = ap (λ cs. x.call ∷ cs) (calls-more es e)

tell-more : {V : Type 0} (f : V → Answer → Type 0) (vs : List V) (es : List Event) (v : V) (e : Event) → AllTell f vs es → f v e.answer → AllTell f (vs ++ v ∷ []) (es ++ e ∷ [])
tell-more f [] [] v e h q = (q, tt)
tell-more f [] (x ∷ es) v e h q = absurd h
tell-more f (u ∷ vs) [] v e h q = absurd h
tell-more f (u ∷ vs) (x ∷ es) v e h q = (h.0, tell-more f vs es v e h.1 q)

-- the right files after the calls so far
abbrev rights-of : Files → Store → List Event → Files
rights-of fs s es = right fs (made_of 2048 s es)

rights-more : (fs : Files) (s : Store) (es : List Event) (e : Event) → rights-of fs s (es ++ e ∷ []) ≡ after (rights-of fs s es) (made (last_of s es) e)
rights-more fs s [] e = refl
rights-more fs s (x ∷ es) e = rights-more (after fs (made s x)) x.after es e

right-more : (fs : Files) (s : Store) (es : List Event) (e : Event) → AllRight fs s es → Right (rights-of fs s es) (last_of s es) e → AllRight fs s (es ++ e ∷ [])
right-more fs s [] e h q = (q, tt)
right-more fs s (x ∷ es) e h q = (h.0, right-more (after fs (made s x)) x.after es e h.1 q)

run-more : (s : Store) (es : List Event) (e : Event) → Run 2048 s es → Step 2048 (last_of s es) e.call e.answer e.after → Run 2048 s (es ++ e ∷ [])
run-more s [] e h st = (st, tt)
run-more s (x ∷ es) e h st = (h.0, run-more x.after es e h.1 st)

-- the law holds of the calls so far, the files are the right files, and what every call keeps holds of the store
pub record SoFar {V : Type 0} (f : V → Answer → Type 0) (s : Store) (calls : List Call) (answers : List V) (t : Store) : Type 0 where
  pub law : Law f s calls answers t
  pub steps : Run 2048 s law.events
  pub holds : Holds 2048 t
  pub same : files (recs t) ≡ rights-of (files (recs s)) s law.events

pub no-call : {V : Type 0} (f : V → Answer → Type 0) (s : Store) → Holds 2048 s → SoFar f s [] [] s
no-call f s h = record { law = record { events = []; made_all = refl; answered = tt; ends = refl; all_right = tt }; steps = tt; holds = h; same = refl }

module _ {V : Type 0} (f : V → Answer → Type 0) (s t : Store) (calls : List Call) (answers : List V) (h : SoFar f s calls answers t)
    (call : Call) (v : V) (answer : Answer) (u : Store) (tells : f v answer) (st : Step 2048 t call answer u) where
  abbrev fs : Files
  fs = files (recs s)

  abbrev es : List Event
  es = h.law.events

  abbrev e : Event
  e = event t u call answer h.holds st (rights-of fs s es) h.same

  pub one-more : SoFar f s (calls ++ call ∷ []) (answers ++ v ∷ []) u
  one-more = record {
    law = record {
      events = es ++ e ∷ [];
      made_all = calls-more es e ∙ ap (λ cs. cs ++ call ∷ []) h.law.made_all;
      answered = tell-more f answers es v e h.law.answered tells;
      ends = last-more s es e;
      all_right = right-more fs s es e h.law.all_right (subst (λ (z : Store). Right (rights-of fs s es) z e) (sym h.law.ends) (right-now t u call answer h.holds st (rights-of fs s es) h.same));
    };
    steps = run-more s es e h.steps (subst (λ (z : Store). Step 2048 z call answer u) (sym h.law.ends) st);
    holds = (next t u call answer h.holds st (rights-of fs s es) h.same).holds';
    same = fun_ext (files-now t u call answer h.holds st (rights-of fs s es) h.same) ∙ ap (λ (z : Store). after (rights-of fs s es) (made z e)) (sym h.law.ends) ∙ sym (rights-more fs s es e);
  }
