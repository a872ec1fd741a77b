-- Each call keeps the files right and the contents such as mount accepts; and so do whole runs. Assumes nothing.
use Rattle.std.proofs.Common.{◌≡◌, ℕ, zero, suc, ◌+◌, ◌<◌, ◌≤◌, Bool, true, false, not, ltb, ◌⊎◌, List, [], ◌∷◌, ◌++◌, length, get_or, Some, None, Option, sym, refl, ap, ◌∙◌, subst, inl, inr, arith}
use Rattle.std.proofs.lemmas.Bool.{both_ways, and_cases, not-false, or_cases, eqb-true, ltb-true, cond_both, and_parts, leb-true}
use Rattle.flash.specs.declared.chunks.Record.{Record}
use Rattle.rules.specs.Lists.{Among, any, is_there, first_where}
use Rattle.rules.specs.Reading.{present, files, File, Files}
use Rattle.rules.specs.Places.{is_blank_s, is_open_s, Flash, Act, runs, load, to_clean, clean}
use Rattle.rules.specs.Mounting.{mounted, same_record}
use Rattle.rules.specs.Calls.{Call, create, put, cut, rename, delete, opens, closes, collect, mount, record_of, next}
use Rattle.rules.specs.Right.{accepted, changed, fresh, with_part, shortened, renamed, after}
use Rattle.rules.specs.Refusals.{Store, recs, is_open, some_light, early_table, room_table, refusal}
use Rattle.rules.specs.Machine.{none, acts, Answer, refused, counted, collected, granted, broken, IsChange, IsCollect, acts_of, Breaks, with_flash, Granted, Stopped, Step, taken}
use Rattle.flash.specs.declared.chunks.Chunk.{Chunk}
use Rattle.flash.specs.Blocks.{standing}
use Rattle.rules.specs.declared.standings.Standing.{Standing}
use Rattle.rules.specs.declared.standings.Standing.TheVariants.{Blank as blank_s, Open as open_s, Closed as closed_s}
use Rattle.rules.proofs.Lists.{any-from, any_false, any_none, largest-most}
use Rattle.rules.proofs.Shrinking.{shrunk-files}
use Rattle.rules.proofs.Cleaning.{found_at, open_is_lem}
use Rattle.rules.proofs.Mounts.{mounted-sound, none_open}
use Rattle.rules.proofs.Filed.{present-file}
use Rattle.rules.proofs.Tidy.{tidy-mounted}
use Rattle.rules.proofs.Keeping.{Good}
use Rattle.rules.proofs.Placing.{taken_is, some-taken, Live, Cleaned, cleaned, HasBlank}
use Rattle.rules.proofs.Planning.{Fit, Stage, Added, Ends, plan-ends, idle}
use Rattle.rules.proofs.Accepts.{rec-true, rec-self}
use Rattle.rules.proofs.Checks.{clear-all, fit-create, fit-put, fit_cut, fit-rename, fit-delete}

-- what holds of a store: of its contents always, of its standings and open files while it runs
pub record Inv (w : ℕ) (s : Store) : Type 0 where
  pub good : Good w s.n s.p s.flash.blocks
  pub powered : s.running ≡ true → s.power ≡ true
  pub live : s.running ≡ true → Live s.p s.flash
  pub held : s.running ≡ true → (o : ℕ) → is_open s o ≡ true → present (recs s) o ≡ true

pub record Stepped (w : ℕ) (s t : Store) (call : Call) (b : Bool) : Type 0 where
  pub inv : Inv w t
  pub right' : (o : ℕ) → files (recs t) o ≡ after (files (recs s)) (record { call = call; taken = b }) o
  pub same_n : t.n ≡ s.n
  pub same_p : t.p ≡ s.p

-- a change that is not refused runs
change-runs : (s : Store) (call : Call) → IsChange call → refusal s call ≡ 0 → s.running ≡ true
change-runs s (opens o) c e = absurd c
change-runs s (closes o) c e = absurd c
change-runs s collect c e = absurd c
change-runs s mount c e = absurd c
change-runs s call c e = not-false _ (clear-all (early_table s call ++ room_table s call) (omega arith) e).0

acts-are : (w : ℕ) (f : Flash) (call : Call) → IsChange call → acts_of w f call ≡ acts w f call
acts-are w f (opens o) c = absurd c
acts-are w f (closes o) c = absurd c
acts-are w f collect c = absurd c
acts-are w f mount c = absurd c
acts-are w f call c = refl

part-there : (j : ℕ) (bs : List ℕ) (m : Option File) → is_there (with_part j bs m) ≡ is_there m
part-there j bs k = grind arith

short-there : (k : ℕ) (m : Option File) → is_there (shortened k m) ≡ is_there m
short-there k m = grind arith

renamed-there : (name : List ℕ) (m : Option File) → is_there (renamed name m) ≡ is_there m
renamed-there name k = grind arith

changed-there : (fs : Files) (o : ℕ) (F : Option File → Option File) (k : ℕ) → is_there (fs k) ≡ true → (k ≡ o → is_there (F (fs k)) ≡ true) → is_there (changed fs o F k) ≡ true
changed-there fs o F k e h = grind arith

-- an open file stays present
stays : (s : Store) (call : Call) → IsChange call → refusal s call ≡ 0 → (k : ℕ) → is_open s k ≡ true → is_there (files (recs s) k) ≡ true → is_there (accepted (files (recs s)) call k) ≡ true
stays s (create o name) c e k h t = changed-there (files (recs s)) o (fresh name) k t (λ q. refl)
stays s (put o j bs) c e k h t = changed-there (files (recs s)) o (with_part j bs) k t (grind (arith, part-there))
stays s (cut o l) c e k h t = changed-there (files (recs s)) o (shortened l) k t (λ q. short-there l (files (recs s) k) ∙ t)
stays s (rename o name) c e k h t = changed-there (files (recs s)) o (renamed name) k t (grind (arith, renamed-there))
stays s (delete o) c e k h t =
    changed-there (files (recs s)) o (λ m. None) k t
    (grind (arith, clear-all))
stays s _ c e k h t = absurd c

-- options
light-true : (f : ℕ → ℕ) (p : ℕ) (ss : List Standing) (b : ℕ) → some_light f p b ss ≡ true → (i : ℕ) × (get_or ss i blank_s ≡ closed_s) × (f (b + i) < p)
light-true f p [] b e = cc
light-true f p (blank_s ∷ ss) b e = (let h = light-true f p ss (suc b) e in (suc h.0, h.1, subst (λ (z : ℕ). f z < p) (let g : suc b + h.0 ≡ b + suc h.0 = omega arith in g) h.2))
light-true f p (open_s ∷ ss) b e = (let h = light-true f p ss (suc b) e in (suc h.0, h.1, subst (λ (z : ℕ). f z < p) (let g : suc b + h.0 ≡ b + suc h.0 = omega arith in g) h.2))
light-true f p (closed_s ∷ ss) b e =
    elim (or_cases (ltb (f b) p) (some_light f p (suc b) ss) e) [
      | inl q ↦ (grind arith)
      | inr q ↦ (let h = light-true f p ss (suc b) q in (suc h.0, h.1, subst (λ (z : ℕ). f z < p) (let g : suc b + h.0 ≡ b + suc h.0 = omega arith in g) h.2))
    ]

module _ (w : ℕ) (big : 2048 ≤ w) (s : Store) (inv : Inv w s) where
  -- a change
  module _ (call : Call) (ch : IsChange call) (e : refusal s call ≡ 0) where
    stage : Stage w s.n s.p (next (recs s)) (files (recs s)) s.flash
    stage = grind (arith, largest-most)

  pub fit_all : (call : Call) → IsChange call → refusal s call ≡ 0 → Fit w s.n s.p (next (recs s)) (files (recs s)) call
  fit_all (create o name) c e = (fit-create w big s inv.good (inv.held (change-runs s (create o name) c e)) o name e).1
  fit_all (put o j bs) c e = (fit-put w big s inv.good (inv.held (change-runs s (put o j bs) c e)) o j bs e).1
  fit_all (cut o k) c e = (fit_cut w big s inv.good (inv.held (change-runs s (cut o k) c e)) o k e).1
  fit_all (rename o name) c e = (fit-rename w big s inv.good (inv.held (change-runs s (rename o name) c e)) o name e).1
  fit_all (delete o) c e = (fit-delete w big s inv.good (inv.held (change-runs s (delete o) c e)) o e).1
  fit_all _ c e = absurd c

  pub ends : (call : Call) (ch : IsChange call) (e : refusal s call ≡ 0) → Ends w s.n s.p (next (recs s)) (files (recs s)) call (fit_all call ch e) s.flash (acts_of w s.flash call) s.p 2
  ends call ch e =
      subst (λ (z : List Act). Ends w s.n s.p (next (recs s)) (files (recs s)) call (fit_all call ch e) s.flash z s.p 2) (sym (acts-are w s.flash call ch))
      (plan-ends w s.n s.p (next (recs s)) (files (recs s)) call (fit_all call ch e) 6 s.flash (stage call ch e))

  changed-step : (call : Call) → IsChange call → refusal s call ≡ 0 → Stepped w s (with_flash s (runs s.flash (acts_of w s.flash call))) call true
  changed-step call ch e =
      let h = ends call ch e in
      record {
        inv = grind (arith, present-file, stays);
        right' = h.right';
        same_n = refl;
        same_p = refl;
      }

  -- what is left where the supply failed
  off-step : (t : Store) (call : Call) (b : Bool) → Stopped s t → Good w s.n s.p t.flash.blocks → ((o : ℕ) → files (recs t) o ≡ after (files (recs s)) (record { call = call; taken = b }) o) → Stepped w s t call b
  off-step t call b st g f = grind arith

  broken-change : (t : Store) (x : Act) (call : Call) → IsChange call → refusal s call ≡ 0 → Breaks s.flash (acts_of w s.flash call) x t.flash.blocks → Stopped s t
      → Stepped w s t call (any (same_record (record_of w (recs s) call)) (recs t))
  broken-change t x call ch e br st = off-step t call _ st ad.good (grind (arith, ad, with', without'))
    where
      ad : Added w s.n s.p (next (recs s)) (files (recs s)) call t.flash.blocks
      ad = (ends call ch e).breaks x t.flash.blocks br

      with' : Among (record_of w (recs s) call) (recs t) × ((o : ℕ) → files (recs t) o ≡ accepted (files (recs s)) call o) → (o : ℕ) → files (recs t) o ≡ after (files (recs s)) (record { call = call; taken = any (same_record (record_of w (recs s) call)) (recs t) }) o
      with' h o = grind (arith, any-from, rec-self)

      without' : (Among (record_of w (recs s) call) (recs t) → ⊥) × ((o : ℕ) → files (recs t) o ≡ files (recs s) o) → (o : ℕ) → files (recs t) o ≡ after (files (recs s)) (record { call = call; taken = any (same_record (record_of w (recs s) call)) (recs t) }) o
      without' h o =
          h.1 o ∙ ap (λ (b : Bool). after (files (recs s)) (record { call = call; taken = b }) o)
          (sym (any_none (same_record (record_of w (recs s) call)) (recs t) (λ y a q. h.0 (subst (λ (z : Record). Among z (recs t)) (sym (rec-true (record_of w (recs s) call) y q)) a))))

  -- collect
  collect-on : refusal s collect ≡ 0 → s.running ≡ true
  collect-on e = grind arith

  pub record Collects : Type 0 where
    pub block : ℕ
    pub copies' : ℕ
    pub is : to_clean s.flash ≡ Some (block, copies')
    pub few : copies' < s.p
    pub out : Cleaned w s.n s.p s.flash (clean s.flash) copies'

  pub collects : refusal s collect ≡ 0 → Collects
  collects e = go (first_where is_blank_s s.flash.stand) refl (grind (arith, clear-all))
    where
      lv : Live s.p s.flash
      lv = inv.live (collect-on e)

      some : 0 < s.p
      some = grind arith

      make : (v l : ℕ) → to_clean s.flash ≡ Some (v, l) → l < s.p → (l ≡ 0) ⊎ (HasBlank s.flash × (l ≤ s.p)) → Collects
      make v l q few how = record { block = v; copies' = l; is = q; few = few; out = cleaned w s.n s.p s.flash inv.good lv v l (taken_is s.flash v l q) how q }

      no_open : first_where is_blank_s s.flash.stand ≡ None → first_where is_open_s s.flash.stand ≡ None
      no_open f = grind arith

      blank-among : (ss : List Standing) → any is_blank_s ss ≡ false → (i : ℕ) (d : Standing) → i < length ss → is_blank_s (get_or ss i d) ≡ true → ⊥
      blank-among [] q i d l h = omega arith
      blank-among (x ∷ ss) q zero d l h = any_false is_blank_s (x ∷ ss) x q (inl refl) h
      blank-among (x ∷ ss) q (suc i) d l h = blank-among ss (Rattle.std.proofs.lemmas.Bool.or_parts (is_blank_s x) (any is_blank_s ss) q).1 i d (omega arith) h

      go : (m : Option ℕ) → first_where is_blank_s s.flash.stand ≡ m → (any is_blank_s s.flash.stand ≡ false) ⊎ (not (some_light (load s.flash.blocks) s.p 0 s.flash.stand) ≡ false) → Collects
      go None f h = (let id = idle w s.n s.p s.flash inv.good lv (no_open f) f in make id.0 0 id.1 some (inl refl))
      go (Some i) f (inl h) = (let fa = found_at is_blank_s s.flash.stand i f in absurd (blank-among s.flash.stand h i blank_s fa.0 (fa.1 blank_s)))
      go (Some i) f (inr h) = grind (arith, light-true, some-taken, taken_is, make)

  shrunk-right : (bs' : List (List Chunk)) → Rattle.rules.specs.Laws.Shrunk (recs s) (standing bs') → (o : ℕ) → files (standing bs') o ≡ files (recs s) o
  shrunk-right bs' h o = grind (arith, shrunk-files)

  collected-step : refusal s collect ≡ 0 → Stepped w s (with_flash s (runs s.flash (clean s.flash))) collect true
  collected-step e = grind (arith, collects, shrunk-right, present-file)

  broken-collect : (t : Store) (x : Act) (b : Bool) → refusal s collect ≡ 0 → Breaks s.flash (clean s.flash) x t.flash.blocks → Stopped s t → Stepped w s t collect b
  broken-collect t x b e br st = grind (arith, collects, shrunk-right)

  -- open, close, mount
  abbrev remounted : Store
  remounted = record { n = s.n; p = s.p; power = true; running = true; opened = none; flash = mounted s.flash.blocks }

  mount-step : Stepped w s remounted mount true
  mount-step = record {
    inv = record {
      good = inv.good;
      powered = λ r. refl;
      live = λ r. record {
        sound = mounted-sound s.p s.flash.blocks (grind arith);
        tidy = tidy-mounted s.p s.flash.blocks;
        spare = λ b q. absurd (none_open s.flash.blocks b (grind (arith, open_is_lem, found_at)));
      };
      held = λ r o q. (cc);
    };
    right' = λ o. refl;
    same_n = refl;
    same_p = refl;
  }

  collect-only : (call : Call) → IsCollect call → refusal s call ≡ 0 → Stepped w s (with_flash s (runs s.flash (acts_of w s.flash call))) call true
  collect-only k c e = grind (arith, collected-step)

  granted-step : (call : Call) (t : Store) → refusal s call ≡ 0 → Granted s call t → Stepped w s t call true
  granted-step (create o name) t e g = absurd g
  granted-step (put o j bs) t e g = absurd g
  granted-step (cut o k) t e g = absurd g
  granted-step (rename o name) t e g = absurd g
  granted-step (delete o) t e g = absurd g
  granted-step (opens o) t e g = search arith
  granted-step (closes o) t e g = search arith
  granted-step collect t e g = absurd g
  granted-step mount t e g = search (arith, mount-step)

  broken-step : (t : Store) (x : Act) (call : Call) → refusal s call ≡ 0 → Breaks s.flash (acts_of w s.flash call) x t.flash.blocks → Stopped s t
      → Stepped w s t call (any (same_record (record_of w (recs s) call)) (recs t))
  broken-step t x (create o name) e br st = broken-change t x (create o name) tt e br st
  broken-step t x (put o j bs) e br st = broken-change t x (put o j bs) tt e br st
  broken-step t x (cut o k) e br st = broken-change t x (cut o k) tt e br st
  broken-step t x (rename o name) e br st = broken-change t x (rename o name) tt e br st
  broken-step t x (delete o) e br st = broken-change t x (delete o) tt e br st
  broken-step t x (opens o) e br st = absurd br
  broken-step t x (closes o) e br st = absurd br
  broken-step t x collect e br st = broken-collect t x _ e br st
  broken-step t x mount e br st = absurd br

  pub step : (t : Store) (call : Call) (answer : Answer) → Step w s call answer t → Stepped w s t call (taken w s call answer t)
  step t call (refused k) h = search arith
  step t call (counted a b) h = subst (λ (z : Store). Stepped w s z call true) (sym h.3) (changed-step call h.0 h.1)
  step t call (collected v k) h = subst (λ (z : Store). Stepped w s z call true) (sym h.3) (collect-only call h.0 h.1)
  step t call granted h = granted-step call t h.0 h.1
  step t call (broken x) h = broken-step t x call h.0 h.1 h.2
