-- What mount and each call made say, as steps of a run. Assumes nothing.
use Rattle.std.proofs.Common.{◌≡◌, ℕ, ◌+◌, ◌<◌, ◌≤◌, min, Bool, true, false, List, [], ◌∷◌, ◌++◌, map, length, take, drop, get_or, set, None, refl, sym, ap, ◌∙◌, subst, inl, inr, arith}
use Rattle.std.proofs.lemmas.Bool.{both_ways}
use Rattle.std.proofs.lemmas.List.{length-take, take-map, get_or-take, map_more, take_more_set, drop-set-lt}
use mathlib.Core.Path.{fun_ext}
use Rattle.flash.specs.Model.{State, blocks_of, started}
use Rattle.rules.specs.declared.standings.Standing.{Standing}
use Rattle.rules.specs.Calls.{Call, mount}
use Rattle.rules.specs.Machine.{Answer, refused, counted, collected, granted, broken, Step}
use Rattle.rules.specs.Mounting.{mounted, verdict}
use Rattle.rules.specs.Places.{Flash}
use Rattle.rules.specs.Reading.{files}
use Rattle.rules.specs.Refusals.{Store, recs, refusal}
use Rattle.rules.specs.Runs.{Shaped, Holds, attached}
use Rattle.rules.proofs.Whole.{steps-are-right}
use Rattle.store.specs.declared.making.Answer.{Answer as Given}
use Rattle.store.specs.declared.making.Answer.TheVariants.{Counted, Collected, Granted, Refused}
use Rattle.store.specs.Making.{Makes}
use Rattle.store.specs.Stores.{NoneHeld, store_of}
use Rattle.runs.specs.Runs.{Tells, Lawful, just_mounted, MadeRightly}
use Rattle.runs.proofs.Lawful.{next, right-now}
use Rattle.runs.proofs.SoFar.{SoFar, no-call, one-more}

-- what a call made answers and leaves is a step
pub makes-step : (s : Store) (call : Call) (v : Given) (t : Store) → Makes s call v t → (a : Answer) × Tells v a × Step 2048 s call a t
makes-step s call (Counted c) t h = (counted c.programs c.erases, refl, h)
makes-step s call (Collected b k) t h = (collected b k, refl, h)
makes-step s call Granted t h = (granted, refl, h)
makes-step s call (Refused e) t (inl r) = (refused (refusal s call), inl (ap refused (sym r.number)), r.step)
makes-step s call (Refused e) t (inr b) = (broken b.act, inr (b.act, refl, b.names), b.step)

-- and the law holds of it
pub made_rightly : (s : Store) (call : Call) (v : Given) (t : Store) → Makes s call v t → Holds 2048 s → MadeRightly s call v t
made_rightly s call v t m h =
    let a = makes-step s call v t m in
    record { answer = a.0; tells = a.1; step = a.2; right = right-now s t call a.0 h a.2 (files (recs s)) refl; holds = (next s t call a.0 h a.2 (files (recs s)) refl).holds' }

-- a mount that accepts is the first step
pub mounted-holds : (u : Store) → Shaped 2048 u.n u.p u.flash.blocks → verdict u.n u.p u.flash.blocks ≡ None → Holds 2048 (just_mounted u)
mounted-holds u sh ok =
    let a : Store = attached u.n u.p u.power u.flash.blocks in
    let h : Holds 2048 a = record { shaped = sh; mounts = ok; powered = λ q. absurd (both_ways false refl q); stands = λ q. absurd (both_ways false refl q); held = λ q. absurd (both_ways false refl q) } in
    let free : refusal a mount ≡ 0 = rw ok refl in
    (steps-are-right 2048 (omega arith) a (just_mounted u) mount granted h (free, refl)).holds'

same-store : (n n' p p' : ℕ) (on on' r r' : Bool) (o o' : ℕ → Bool) (f f' : Flash) → n ≡ n' → p ≡ p' → on ≡ on' → r ≡ r' → o ≡ o' → f ≡ f'
    → ◌≡◌ {A = Store} (record { n = n; p = p; power = on; running = r; opened = o; flash = f }) (record { n = n'; p = p'; power = on'; running = r'; opened = o'; flash = f' })
same-store n n' p p' on on' r r' o o' f f' a b c d e g = cc

pub mounted-is : (u : Store) (t : State) (running : Bool) (held : List Bool) (ss : List Standing) → t.n ≡ u.n → t.p ≡ u.p → t.on ≡ true → running ≡ true → NoneHeld held
    → (store_of t running held ss).flash ≡ mounted u.flash.blocks → store_of t running held ss ≡ just_mounted u
mounted-is u t running held ss a b c d e f = same-store _ _ _ _ _ _ _ _ _ _ _ _ a b c d (fun_ext e) f

-- what a call of `mount` that accepts ensures: no call has been made, and the law holds so far
pub just_begun : (f : Given → Answer → Type 0) (s t : State) (was running : Bool) (held₀ held : List Bool) (ss₀ ss : List Standing) → t ≡ started s → Shaped 2048 t.n t.p (blocks_of t)
    → verdict s.n s.p (blocks_of s) ≡ None → running ≡ true → NoneHeld held → (store_of t running held ss).flash ≡ mounted (blocks_of s)
    → SoFar f (just_mounted (store_of s was held₀ ss₀)) [] [] (store_of t running held ss)
unfolding blocks_of
just_begun f s t was running held₀ held ss₀ ss e sh ok on none_open left =
    let u : Store = store_of s was held₀ ss₀ in
    let same : Shaped 2048 s.n s.p (blocks_of s) = subst (λ (z : State). Shaped 2048 z.n z.p (blocks_of z)) e sh in
    let is : store_of t running held ss ≡ just_mounted u = mounted-is u t running held ss (ap (λ (z : State). z.n) e) (ap (λ (z : State). z.p) e) (ap (λ (z : State). z.on) e) on none_open left in
    subst (λ (z : Store). SoFar f (just_mounted u) [] [] z) (sym is) (no-call f (just_mounted u) (mounted-holds u same ok))

-- the rows beyond those written stay
pub beyond_stay : {V : Type 0} (rows : List V) (at count : ℕ) (v : V) → at < count → drop count (set rows at v) ≡ drop count rows
beyond_stay rows at count v lt = drop-set-lt count rows at v lt

-- all calls made
pub all_made : {X : Type 0} (f : X → Call) (s : Store) (calls : List X) (rows : List Given) (rooms at count : ℕ) (t : Store) → SoFar Tells s (map f (take at calls)) (take at rows) t
    → count ≡ min (length calls) rooms → at ≤ length (take count calls) → length (take count calls) ≤ at → Lawful s (take count (map f calls)) (take count rows) t
all_made f s calls rows rooms at count t h many a b =
    let same : at ≡ count = omega (arith, length-take count calls, a, b, many) in
    subst (λ (cs : List Call). Lawful s cs (take count rows) t) (sym (take-map f count calls))
    (subst (λ (n : ℕ). Lawful s (map f (take n calls)) (take n rows) t) same (record { law = h.law; steps = h.steps }))

-- one call more
module _ {X : Type 0} (f : X → Call) (s : Store) (calls : List X) (rows : List Given) (at count : ℕ) (t : Store) (h : SoFar Tells s (map f (take at calls)) (take at rows) t) where
  module _ (x : X) (is : x ≡ get_or (take count calls) at x) (under : at < length (take count calls)) (many : count ≡ min (length calls) (length rows)) where
    pub at_under : at < count
    at_under = omega (arith, length-take count calls, under)

    in-calls : at < length calls
    in-calls = omega (arith, length-take count calls, under)

    in-rows : at < length rows
    in-rows = omega (arith, many, at_under)

    calls-are : map f (take (at + 1) calls) ≡ map f (take at calls) ++ f x ∷ []
    calls-are = map_more f calls at x in-calls ∙ ap (λ y. map f (take at calls) ++ f y ∷ []) (sym (get_or-take count calls at x at_under) ∙ sym is)

    pub one_call : (v : Given) (u : Store) → Makes t (f x) v u → SoFar Tells s (map f (take (at + 1) calls)) (take (at + 1) (set rows at v)) u
    one_call v u m =
        let a = makes-step t (f x) v u m in
        subst (λ (cs : List Call). SoFar Tells s cs (take (at + 1) (set rows at v)) u) (sym calls-are)
        (subst (λ (vs : List Given). SoFar Tells s (map f (take at calls) ++ f x ∷ []) vs u) (sym (take_more_set rows at v in-rows))
        (one-more Tells s t (map f (take at calls)) (take at rows) h (f x) v a.0 u a.1 a.2))
