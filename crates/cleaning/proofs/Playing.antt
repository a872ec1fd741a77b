-- Acts played on a chip and its index, one after the other. Assumes nothing.
use Rattle.std.proofs.Common.{◌≡◌, ℕ, ◌+◌, not, List, [], ◌++◌, sym, refl, ap, ◌∙◌, subst, append-nil, append_assoc}
use Rattle.flash.specs.declared.faults.Fault.{Fault}
use Rattle.flash.specs.Model.{State, blocks_of}
use Rattle.rules.specs.Machine.{Breaks}
use Rattle.rules.specs.Places.{Flash, Act, runs, is_program, counts}
use Rattle.rules.specs.Runs.{TakesAll}
use Rattle.rules.proofs.Cleaning.{runs_append}
use Rattle.rules.proofs.Placing.{count-append}
use Rattle.scan.specs.declared.indexes.Index.{Index}
use Rattle.writing.specs.Writing.{flash_of, Tells, Beside, AllDone, BrokenAt}
use Rattle.cleaning.proofs.Acts.{takes-first, takes-rest, breaks-first, breaks-rest}

pub none-done : {s : State} {x : Index} → Tells s x → AllDone s x [] s x
none-done t = record { tells = t; made = refl; beside = record { same_n = refl; same_p = refl; same_sizes = refl; same_names = refl } }

beside-on : {s t u : State} {x y z : Index} → Beside s x t y → Beside t y u z → Beside s x u z
beside-on a b = record { same_n = b.same_n ∙ a.same_n; same_p = b.same_p ∙ a.same_p; same_sizes = b.same_sizes ∙ a.same_sizes; same_names = b.same_names ∙ a.same_names }

-- first some acts, then more
module _ {s t u : State} {x y z : Index} {acts more : List Act} (d : AllDone s x acts t y) where
  pub done-on : AllDone t y more u z → AllDone s x (acts ++ more) u z
  done-on e = record {
    tells = e.tells;
    made = e.made ∙ ap (λ (f : Flash). runs f more) d.made ∙ sym (runs_append acts more (flash_of s x));
    beside = beside-on d.beside e.beside;
  }

  pub broken-on : {f : Fault} → BrokenAt t y more f u z → BrokenAt s x (acts ++ more) f u z
  broken-on e = record {
    act = e.act;
    names = e.names;
    left = breaks-rest e.act (blocks_of u) acts more (flash_of s x) (subst (λ (g : Flash). Breaks g more e.act (blocks_of u)) d.made e.left);
    off = e.off;
    beside = beside-on d.beside e.beside;
  }

-- broken off, so is what goes on with more
pub broken-more : {s t : State} {x y : Index} {acts : List Act} {f : Fault} (more : List Act) → BrokenAt s x acts f t y → BrokenAt s x (acts ++ more) f t y
broken-more {s} {t} {x} {y} {acts} more e = record {
  act = e.act;
  names = e.names;
  left = breaks-first e.act (blocks_of t) acts more (flash_of s x) e.left;
  off = e.off;
  beside = e.beside;
}

-- of all acts some are done, with these programs and erases, and the rest is still to come
pub record Underway (s : State) (x : Index) (whole rest : List Act) (a e : ℕ) (t : State) (y : Index) : Type 0 where
  pub done : List Act
  pub all : AllDone s x done t y
  pub split : whole ≡ done ++ rest
  pub counted : counts done ≡ (a, e)

pub nothing-yet : {s : State} {x : Index} {whole rest : List Act} → Tells s x → whole ≡ rest → Underway s x whole rest 0 0 s x
nothing-yet t e = record { done = []; all = none-done t; split = e; counted = refl }

pub all-done : {s : State} {x : Index} {whole : List Act} {a e : ℕ} {t : State} {y : Index} → Underway s x whole [] a e t y → AllDone s x whole t y × (counts whole ≡ (a, e))
all-done {s} {x} {whole} {a} {e} {t} {y} h =
    let q : whole ≡ h.done = h.split ∙ append-nil h.done in
    subst (λ (acts : List Act). AllDone s x acts t y × (counts acts ≡ (a, e))) (sym q) (h.all, h.counted)

-- the rest begins with acts that are to be done now
module _ {s : State} {x : Index} {whole rest : List Act} {a e : ℕ} {t : State} {y : Index} (h : Underway s x whole rest a e t y) (now more : List Act) (cut : rest ≡ now ++ more) where
  ahead : whole ≡ h.done ++ (now ++ more)
  ahead = h.split ∙ ap (λ (acts : List Act). h.done ++ acts) cut

  front : whole ≡ (h.done ++ now) ++ more
  front = ahead ∙ sym (append_assoc h.done now more)

  pub takes-now : TakesAll s.n s.p (flash_of s x) whole → TakesAll t.n t.p (flash_of t y) now
  takes-now takes =
      let b : TakesAll s.n s.p (runs (flash_of s x) h.done) (now ++ more) = takes-rest s.n s.p h.done (now ++ more) (flash_of s x) (subst (TakesAll s.n s.p (flash_of s x)) ahead takes) in
      let c : TakesAll s.n s.p (flash_of t y) now = subst (λ (f : Flash). TakesAll s.n s.p f now) (sym h.all.made) (takes-first s.n s.p now more (runs (flash_of s x) h.done) b) in
      subst (λ (m : ℕ). TakesAll m t.p (flash_of t y) now) (sym h.all.beside.same_n) (subst (λ (m : ℕ). TakesAll s.n m (flash_of t y) now) (sym h.all.beside.same_p) c)

  pub breaks-now : {f : Fault} {u : State} {z : Index} → BrokenAt t y now f u z → BrokenAt s x whole f u z
  breaks-now {f} {u} {z} b = subst (λ (acts : List Act). BrokenAt s x acts f u z) (sym front) (broken-more more (broken-on h.all b))

  pub goes-on : {u : State} {z : Index} (n : ℕ × ℕ) → AllDone t y now u z → counts now ≡ n → Underway s x whole more (a + n.0) (e + n.1) u z
  goes-on n d k = record {
    done = h.done ++ now;
    all = done-on h.all d;
    split = front;
    counted =
        let i = count-append is_program h.done now ∙ (λ j. (h.counted j).0 + (k j).0) in
        let o = count-append (λ (b : Act). not (is_program b)) h.done now ∙ (λ j. (h.counted j).1 + (k j).1) in
        λ j. (i j, o j);
  }
