-- What `reduce` of an iterator returns, where its closure computes h. Assumes nothing.
use Rattle.std.proofs.Common.{◌≡◌, List, [], ◌∷◌, Some, None, Option, MatchOption, refl, sym, ap, ◌∙◌}
use Rattle.std.specs.Fn.{Called, Mut}
use Rattle.std.specs.List.{FoldsTo, fold, reduce}
use Rattle.std.specs.Iterator.{Drains}
use Rattle.std.proofs.lemmas.Fn.{fold_same}
use Rattle.std.proofs.lemmas.List.{map-id}
use Rattle.std.proofs.lemmas.List.Sums.{fold_push}
use Rattle.std.proofs.lemmas.Iterator.{YieldsList, items_from_drains}

items : {S A : Type 0} {steps : S → Option A → S → Type 0} {s : S} {all : List A} (xs : List A) → Drains steps s xs → YieldsList steps (λ y. y) s all → xs ≡ all
items xs d chain = sym (map-id xs) ∙ items_from_drains xs (d.1.0, d.1.1, λ w. (d.0, d.1.2)) chain

pub reduce_from_calls : {S A F : Type 0} {steps : S → Option A → S → Type 0} {s : S} {all : List A} {g : Mut F (A × (A × Unit {0})) A} (h : A → A → A) (f : F) (r : Option A)
    → MatchOption r (Drains steps s []) (λ y. (x : A) × (xs : List A) × (f' : F) × Drains steps s (x ∷ xs) × FoldsTo {P = F × A} (λ p z q. Called g p.0 (p.1, (z, tt)) q.1 q.0) (f, x) xs (f', y))
    → YieldsList steps (λ y. y) s all → ((a x b : A) (q : F) → Called g f (a, (x, tt)) b q → (q ≡ f) × (b ≡ h a x)) → r ≡ reduce h all
reduce_from_calls h f None d chain acts = ap (reduce h) (items [] d chain)
reduce_from_calls {g = g} h f (Some y) (x, xs, f', d, turns) chain acts =
    ap Some (fold_same g (λ ys b. b ≡ fold h x ys) f (λ ys a z b q j k. let w = acts a z b q k in (w.1 ∙ ap (λ v. h v z) j ∙ sym (fold_push h x ys z), w.0)) xs x y f' refl turns)
    ∙ ap (reduce h) (items (x ∷ xs) d chain)
