-- The law of whole runs. Assumes nothing.
use Rattle.std.proofs.Common.{◌≡◌, ℕ, zero, suc, ◌<◌, ◌≤◌, false, cond, List, [], ◌∷◌, length, get_or, Some, None, sym, refl, ap, ◌∙◌, subst, arith}
use mathlib.Core.Path.{fun_ext}
use Rattle.rules.specs.Lists.{first_where}
use Rattle.rules.specs.Reading.{files, Files, used_by}
use Rattle.rules.specs.Places.{is_blank_s, is_open_s, Act, runs, clean, to_clean, counts}
use Rattle.rules.specs.Mounting.{limit}
use Rattle.rules.specs.Calls.{Call, opens, closes, collect, mount}
use Rattle.rules.specs.Right.{accepted, Made, right}
use Rattle.rules.specs.Refusals.{Store, recs, too_many, first_of, early_table, refusal}
use Rattle.rules.specs.Machine.{Answer, refused, counted, collected, granted, broken, IsChange, IsCollect, Fills, acts_of, with_flash, Step, Event, Run, last_of, taken, made_of}
use Rattle.rules.specs.Runs.{TwoCleaningsSuffice, AcceptedThroughout, attached, TakesAll, Stands, Cheap, AllCheap, Holds, StepsAreRight, HoldingSuffices, Kept, RunsAreRight}
use Rattle.flash.specs.Blocks.{standing}
use Rattle.rules.specs.declared.standings.Standing.{Standing}
use Rattle.rules.specs.declared.standings.Standing.TheVariants.{Blank as blank_s, Open as open_s, Closed as closed_s}
use Rattle.rules.proofs.Keeping.{Good}
use Rattle.rules.proofs.Cleaning.{found_at, open_is_lem, blank-is}
use Rattle.rules.proofs.Filed.{present-file}
use Rattle.rules.proofs.Tidy.{open_in, pair_is}
use Rattle.rules.proofs.Placing.{Live, first-there}
use Rattle.rules.proofs.Planning.{closed_at}
use Rattle.rules.proofs.Accepts.{mount-good, good-mount}
use Rattle.rules.proofs.Checks.{clear-all, clear_none}
use Rattle.rules.proofs.Stepping.{Inv, Stepped, step, ends, collects}

-- what an answer costs
collect-few : (w : ℕ) → 2048 ≤ w → (s : Store) → Inv w s → (call : Call) → IsCollect call → refusal s call ≡ 0 → (b k : ℕ) → to_clean s.flash ≡ Some (b, k) → k < s.p
collect-few w big s inv collect c e b k q =
    let x = collects w big s inv e in
    let y : x.copies' ≡ k = (pair_is (x.block, x.copies') (b, k) (sym x.is ∙ q)).1 in
    let z = x.few in
    omega arith
collect-few w big s inv _ c e b k q = absurd c

cheap-step : (w : ℕ) → 2048 ≤ w → (s : Store) → Inv w s → (t : Store) (call : Call) (answer : Answer) → Step w s call answer t → Cheap s.p answer
cheap-step w big s inv t call (refused k) st = tt
cheap-step w big s inv t call (counted a b) st =
    let h = ends w big s inv call st.0 st.1 in
    let x : (counts (acts_of w s.flash call)).0 ≡ a = ap (λ (z : ℕ × ℕ). z.0) st.2 in
    let y : (counts (acts_of w s.flash call)).1 ≡ b = ap (λ (z : ℕ × ℕ). z.1) st.2 in
    (grind arith)
cheap-step w big s inv t call (collected b k) st = collect-few w big s inv call st.0 st.1 b k st.2
cheap-step w big s inv t call granted st = tt
cheap-step w big s inv t call (broken x) st = tt

-- a run of calls
record Ran (w : ℕ) (s t : Store) (es : List Event) (made : List Made) : Type 0 where
  cheap : AllCheap s.p es
  inv : Inv w t
  right' : (o : ℕ) → files (recs t) o ≡ right (files (recs s)) made o
  same_n : t.n ≡ s.n
  same_p : t.p ≡ s.p

ran : (w : ℕ) → 2048 ≤ w → (es : List Event) (s : Store) → Inv w s → Run w s es → Ran w s (last_of s es) es (made_of w s es)
ran w big [] s inv r = grind arith
ran w big (e ∷ es) s inv r = search (arith, ran w big es e.after, step, cheap-step)

-- 27
abbrev Only27 : Store → Files → Call → Type 0
Only27 s fs call = first_of (early_table s call) ≡ 0
    → (refusal s call ≡ 27 → limit s.n s.p < used_by (accepted fs call)) × (limit s.n s.p < used_by (accepted fs call) → refusal s call ≡ 27) × (used_by (accepted fs call) ≤ limit s.n s.p → refusal s call ≡ 0)

from-table : (s : Store) (call : Call) → refusal s call ≡ cond (too_many s call) 27 0 → Only27 s (files (recs s)) call
from-table s call e early = search arith

only-27 : (s : Store) (call : Call) → Fills call → Only27 s (files (recs s)) call
only-27 s k f e = grind (arith, from-table, clear_none, clear-all)

-- no call is stuck
abbrev Goes : ℕ → Store → Call → Type 0
Goes w s call = (answer : Answer) × (t : Store) × Step w s call answer t × ((x : Act) → answer ≡ broken x → ⊥)

abbrev Clean : Answer → Type 0
Clean (refused k) = Unit {0}
Clean (counted a b) = Unit {0}
Clean (collected v k) = Unit {0}
Clean granted = Unit {0}
Clean (broken x) = ⊥

not-broken : (a : Answer) → Clean a → (x : Act) → a ≡ broken x → ⊥
not-broken a c x e = subst Clean e c

goes-change : (w : ℕ) (s : Store) (call : Call) → IsChange call → refusal s call ≡ 0 → Goes w s call
goes-change w s call ch e =
    let q : ℕ × ℕ = counts (acts_of w s.flash call) in
    (counted (counts (acts_of w s.flash call)).0 (counts (acts_of w s.flash call)).1, with_flash s (runs s.flash (acts_of w s.flash call)), (ch, e, refl, refl), not-broken _ tt)

goes_on : (w : ℕ) → 2048 ≤ w → (s : Store) → Inv w s → (call : Call) → refusal s call ≡ 0 → Goes w s call
goes_on w big s inv (opens o) e = search arith
goes_on w big s inv (closes o) e = search arith
goes_on w big s inv collect e = (let c = collects w big s inv e in (collected c.block c.copies', with_flash s (runs s.flash (clean s.flash)), (tt, e, c.is, refl), not-broken _ tt))
goes_on w big s inv mount e = search arith
goes_on w big s inv call e = goes-change w s call tt e

takes-on : (w : ℕ) → 2048 ≤ w → (s : Store) → Inv w s → (call : Call) → refusal s call ≡ 0 → TakesAll s.n s.p s.flash (acts_of w s.flash call)
takes-on w big s inv (opens o) e = tt
takes-on w big s inv (closes o) e = tt
takes-on w big s inv collect e = (collects w big s inv e).out.takes
takes-on w big s inv mount e = tt
takes-on w big s inv call e = (ends w big s inv call tt e).takes

stands_on : (w : ℕ) (s : Store) → Good w s.n s.p s.flash.blocks → Live s.p s.flash → Stands s.n s.p s.flash
stands_on w s g lv = record {
  many = lv.sound.same_long ∙ g.shape.blocks';
  blank_is = lv.sound.blank_is;
  blanked = grind arith;
  lone = lv.tidy.lone;
  open_is = lv.sound.open_is;
  spare = λ b e. (let x = first-there is_open_s s.flash.stand b closed_s (open_in s.flash.stand b e) (ap is_open_s e) in let y = lv.spare x.0 x.1 in (grind (arith, blank-is, found_at)));
  idle = λ a b. (g.way.0, g.way.1, closed_at w s.n s.p s.flash g lv (none a) g.way.0 g.way.1 (λ e. b g.way.0 (two e)), g.way.2);
}
  where
    none : ((i : ℕ) → get_or s.flash.stand i closed_s ≡ open_s → ⊥) → first_where is_open_s s.flash.stand ≡ None
    none a = grind (arith, found_at)

    other : (ss : List Standing) (i : ℕ) → i < length ss → get_or ss i blank_s ≡ blank_s → get_or ss i closed_s ≡ blank_s
    other [] i l e = absurd (omega arith)
    other (x ∷ ss) zero l e = e
    other (x ∷ ss) (suc i) l e = other ss i (omega arith) e

    two : get_or s.flash.stand g.way.0 blank_s ≡ blank_s → get_or s.flash.stand g.way.0 closed_s ≡ blank_s
    two e = other s.flash.stand g.way.0 (grind arith) e

pair_of : {a b c d : ℕ} → a ≡ c → b ≡ d → ◌≡◌ {A = ℕ × ℕ} (a, b) (c, d)
pair_of p q = cc

kept : (w : ℕ) → 2048 ≤ w → (s : Store) → Inv w s → (fs : Files) → ((o : ℕ) → files (recs s) o ≡ fs o) → Kept w s.n s.p fs s
kept w big s inv fs same = record {
  rightly = same;
  mounts = good-mount w s.n s.p s.flash.blocks inv.good;
  only27 = λ call f e. subst (λ (gs : Files). Only27 s gs call) (fun_ext same) (only-27 s call f) e;
  goes = goes_on w big s inv;
  costs = λ call ch e. (let h = ends w big s inv call ch e in (h.least, h.programs, h.erases));
  collects = λ e. (let c = collects w big s inv e in ((c.block, c.copies'), c.is, c.few, pair_of c.out.programs c.out.erases));
  finds = λ call ch e. (ends w big s inv call ch e).finds;
  takes = takes-on w big s inv;
  powered = inv.powered;
  stands = λ on. stands_on w s inv.good (inv.live on);
  held = grind (arith, present-file);
  size_n = refl;
  size_p = refl;
}

pub runs-are-right : (w : ℕ) → 2048 ≤ w → RunsAreRight w
runs-are-right w big n p on bs sh ok es r =
    let s₀ : Store = attached n p on bs in
    let inv₀ : Inv w (attached n p on bs) = record { good = mount-good w n p bs sh ok; powered = λ q. (cc); live = λ q. (cc); held = λ q. (cc) } in
    let h : Ran w (attached n p on bs) (last_of (attached n p on bs) es) es (made_of w (attached n p on bs) es) = ran w big es (attached n p on bs) inv₀ r in
    let t : Store = last_of (attached n p on bs) es in
    let fs : Files = right (files (standing bs)) (made_of w (attached n p on bs) es) in
    let k : Kept w t.n t.p fs t = kept w big t h.inv fs h.right' in
    (grind arith)

-- the invariant, as the specs state it
blank-in : (ss : List Standing) (i : ℕ) → get_or ss i closed_s ≡ blank_s → i < length ss
blank-in [] i e = cc
blank-in (x ∷ ss) zero e = omega arith
blank-in (x ∷ ss) (suc i) e = omega (arith, blank-in ss i e)

inv-from : (w : ℕ) (s : Store) → Holds w s → Inv w s
inv-from w s h = record { good = mount-good w s.n s.p s.flash.blocks h.shaped h.mounts; powered = h.powered; live = λ on. live' (h.stands on); held = h.held }
  where
    live' : Stands s.n s.p s.flash → Live s.p s.flash
    live' st = record {
      sound = record { blank_is = st.blank_is; open_is = st.open_is; same_long = st.many ∙ sym h.shaped.blocks' };
      tidy = record { lone = st.lone; blanked = λ i l e. st.blanked i (omega arith) e };
      spare = λ b q. (let y = st.spare b (open_is_lem _ ((found_at is_open_s s.flash.stand b q).1 closed_s)) in first-there is_blank_s s.flash.stand y.0 closed_s (blank-in s.flash.stand y.0 y.1) (ap is_blank_s y.1));
    }

inv-to : (w : ℕ) (s : Store) → Inv w s → Holds w s
inv-to w s inv = record {
  shaped = inv.good.shape;
  mounts = good-mount w s.n s.p s.flash.blocks inv.good;
  powered = inv.powered;
  stands = λ on. stands_on w s inv.good (inv.live on);
  held = inv.held;
}

pub steps-are-right : (w : ℕ) → 2048 ≤ w → StepsAreRight w
steps-are-right w big s t call answer h st =
    let k : Stepped w s t call (taken w s call answer t) = step w big s (inv-from w s h) t call answer st in
    record { holds' = inv-to w t k.inv; rightly = k.right'; same_n = k.same_n; same_p = k.same_p }

pub holding-suffices : (w : ℕ) → 2048 ≤ w → HoldingSuffices w
holding-suffices w big s h = search (arith, kept, inv-from)

pub two-cleanings-suffice : (w : ℕ) → 2048 ≤ w → TwoCleaningsSuffice w
two-cleanings-suffice w big s h call ch e =
    let x = ends w big s (inv-from w s h) call ch e in
    record {
      finds = x.finds;
      cleanings = (grind arith);
      some = x.least;
      programs = x.programs;
      erases = x.erases;
    }

pub accepted-throughout : (w : ℕ) → 2048 ≤ w → AcceptedThroughout w
accepted-throughout w big s h call e x bs' br =
    let t : Store = record { n = s.n; p = s.p; power = false; running = false; opened = s.opened; flash = record { blocks = bs'; stand = s.flash.stand } } in
    (steps-are-right w big s t call (broken x) h (e, br, record { same_n = refl; same_p = refl; off = refl; stopped = refl; same_open = refl })).holds'.mounts
