-- What was played, put together. Assumes nothing.
use Rattle.std.proofs.Common.{◌≡◌, ℕ, List, ◌++◌, length, Ok, refl, subst, arith}
use Rattle.flash.specs.Model.{State}
use Rattle.rules.specs.Calls.{Call}
use Rattle.rules.specs.Refusals.{Store}
use Rattle.runs.specs.Runs.{Ran}
use Rattle.store.specs.declared.making.Answer.{Answer}
use Rattle.demos.specs.Telling.{call_lines}
use Rattle.demos.specs.Demos.{IsOn, Attached, Told}

-- with a row for each call, all calls are made
all-made : (begun left : Store) (calls : List Call) (rows answers : List Answer) (n : ℕ) → length rows ≡ length calls → Ran begun calls rows (Ok n) left answers → Ran begun calls rows (Ok (length calls)) left answers
all-made begun left calls rows answers n l h =
    let e : n ≡ length calls = omega (arith, h.1, l) in
    subst (λ (k : ℕ). Ran begun calls rows (Ok k) left answers) e h

pub told_played : (s t : State) (begun left : Store) (calls : List Call) (rows answers : List Answer) (n : ℕ) (before after : List ℕ)
    → Attached s begun → length rows ≡ length calls → Ran begun calls rows (Ok n) left answers → IsOn t left → after ≡ before ++ call_lines calls answers → Told s calls before after t left
told_played s t begun left calls rows answers n before after a l h on e = record {
  text = call_lines calls answers;
  played = record {
    begun = begun;
    attached = a;
    rows = rows;
    answers = answers;
    ran = all-made begun left calls rows answers n l h;
    told = refl;
    chip = on;
  };
  added = e;
}
