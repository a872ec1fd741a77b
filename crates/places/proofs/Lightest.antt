-- The block of least load, found by a chain from the lowest number up. Assumes nothing.
use Rattle.std.proofs.Common.{◌≡◌, ℕ, suc, Ordering, Less, Equal, Greater, Bor, nat_cmp, List, [], ◌∷◌, map, Some, None, Option, sym, refl, ap, ◌∙◌, subst, add-one, arith}
use denote.Param.Members.{Mut, Called}
use Rattle.std.specs.Fn.{CalledAt}
use Rattle.std.specs.Iterator.{Drains, KeyTurn, PicksMinByKey}
use Rattle.std.specs.Ordering.{min_by_ordering}
use Rattle.std.specs.List.{FoldsTo, reduce, fold, filter, enumerate_from}
use Rattle.std.specs.Option.{MatchOption}
use Rattle.std.proofs.lemmas.Iterator.{YieldsList}
use Rattle.std.proofs.lemmas.Iterator.Consumers.{reduce_from_yields_List}
use Rattle.std.proofs.lemmas.Bool.Decides.{nat_tests}
use Rattle.std.proofs.lemmas.Grind.{common_steps}
use Rattle.rules.specs.declared.standings.Standing.{Standing}
use Rattle.rules.specs.declared.standings.Standing.TheVariants.{Blank as blank_s, Open as open_s, Closed as closed_s}
use Rattle.rules.specs.Places.{better, least}
use Rattle.places.specs.Places.{is_closed_s, victim_told, with_load}
use Rattle.places.specs.declared.victims.Victim.{Victim}

-- of two blocks the one of lesser load, the first among equals
abbrev pub lighter : Victim → Victim → Victim
lighter v w = min_by_ordering (nat_cmp v.load w.load) v w

load_of : (o : Ordering) (v w : Victim) (m n : ℕ) → m ≡ v.load → n ≡ w.load → min_by_ordering o m n ≡ (min_by_ordering o v w).load
load_of Less v w m n a b = a
load_of Equal v w m n a b = a
load_of Greater v w m n a b = b

-- what `min_by_key` answers over a list of blocks, where a call gives the load and leaves the closure as it was
module _ {F : Type 0} (g : Mut F (Bor Victim × Unit {0}) ℕ) (f : F) (law : (v : Bor Victim) (k : ℕ) (q : F) → Called g f (v, tt) k q → (q ≡ f) × (k ≡ v.now.load)) where
  at : (v : Victim) (k : ℕ) (p q : F) → p ≡ f → CalledAt g p v k q → (q ≡ f) × (k ≡ v.load)
  at v k p q e h =
      let m = law h.shown k q (subst (λ (w : F). Called g w (h.shown, tt) k q) e h.called) in
      (m.0, m.1 ∙ ap (λ (w : Victim). w.load) h.shows)

  turns : (v : Victim) (p : F × ℕ) (xs : List Victim) (q : F × ℕ) (y : Victim) → p.0 ≡ f → p.1 ≡ v.load
      → FoldsTo {P = (F × ℕ) × Victim} (KeyTurn min_by_ordering min_by_ordering g nat_cmp) (p, v) xs (q, y) → FoldsTo (λ a z c. c ≡ lighter a z) v xs y
  turns v p [] q y a b e = ap (λ (w : (F × ℕ) × Victim). w.1) e
  turns v p (z ∷ xs) q y a b e =
      let m = at z e.1.0 p.0 e.0.0.0 a e.1.2 in
      let o : nat_cmp v.load z.load ≡ e.1.1 = rw (sym b) (rw (sym m.1) e.1.3) in
      let k : e.0.0.1 ≡ e.0.1.load = e.1.4 ∙ load_of e.1.1 v z p.1 e.1.0 b m.1 ∙ sym (ap (λ (w : Victim). w.load) e.1.5) in
      (e.0.1, e.1.5 ∙ ap (λ (c : Ordering). min_by_ordering c v z) (sym o), turns e.0.1 e.0.0 xs q y m.0 k e.2)

  pub least_is : {S : Type 0} {steps : S → Option Victim → S → Type 0} (s : S) (r : Option Victim) (all : List Victim) → PicksMinByKey steps g nat_cmp s f r → YieldsList steps (λ x. x) s all → r ≡ reduce lighter all
  least_is {steps = steps} s r all e = reduce_from_yields_List lighter s r (chain r e)
    where
      chain : (r : Option Victim) → PicksMinByKey steps g nat_cmp s f r → MatchOption r (Drains steps s []) (λ y. (x : Victim) × (xs : List Victim) × Drains steps s (x ∷ xs) × FoldsTo (λ a z c. c ≡ lighter a z) x xs y)
      chain None e = e
      chain (Some y) e = let m = at e.0 e.2 f e.3 refl e.6 in (e.0, e.1, e.5, turns e.0 (e.3, e.2) e.1 e.4 y m.0 m.1 e.7)

-- the closed ones of some blocks, the first of them block i, with their loads
abbrev pub closed_with_loads : (ℕ → ℕ) → ℕ → List Standing → List Victim
closed_with_loads load i ss = map (λ q. with_load load q.0) (filter (λ q. is_closed_s q.1) (enumerate_from i ss))

module _ (load : ℕ → ℕ) where
  step : (v w : Victim) (m : Option (ℕ × ℕ)) → better (lighter v w).block (lighter v w).load m ≡ better v.block v.load (better w.block w.load m)
  step v w None = grind (arith, nat_tests, common_steps)
  step v w (Some o) = grind (arith, nat_tests, common_steps)

  beside : (best : Victim) (i : ℕ) (ss : List Standing) → victim_told (Some (fold lighter best (closed_with_loads load i ss))) ≡ better best.block best.load (least load i ss)
  beside best i [] = refl
  beside best i (blank_s ∷ ss) = rw add-one (beside best (suc i) ss)
  beside best i (open_s ∷ ss) = rw add-one (beside best (suc i) ss)
  beside best i (closed_s ∷ ss) = rw add-one (beside (lighter best (with_load load i)) (suc i) ss ∙ step best (with_load load i) (least load (suc i) ss))

  pub lightest : (i : ℕ) (ss : List Standing) → victim_told (reduce lighter (closed_with_loads load i ss)) ≡ least load i ss
  lightest i [] = refl
  lightest i (blank_s ∷ ss) = rw add-one (lightest (suc i) ss)
  lightest i (open_s ∷ ss) = rw add-one (lightest (suc i) ss)
  lightest i (closed_s ∷ ss) = rw add-one (beside (with_load load i) (suc i) ss)
