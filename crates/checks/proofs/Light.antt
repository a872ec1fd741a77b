-- Whether a block stands blank, and whether a closed block has a load below that of a full one. Assumes nothing.
use Rattle.std.proofs.Common.{◌≡◌, ℕ, suc, Bool, false, ◌||◌, ltb, List, [], ◌∷◌, Some, None, Option, refl, ap, ◌∙◌, arith}
use Rattle.std.proofs.lemmas.Bool.Decides.{nat_tests}
use Rattle.std.proofs.lemmas.Grind.{common_steps}
use Rattle.rules.specs.declared.standings.Standing.{Standing}
use Rattle.rules.specs.declared.standings.Standing.TheVariants.{Blank as blank_s, Open as open_s, Closed as closed_s}
use Rattle.rules.specs.Lists.{any, count}
use Rattle.rules.specs.Places.{load, better, least, to_clean}
use Rattle.rules.specs.Refusals.{Store, some_light}
use Rattle.places.specs.declared.victims.Victim.{Victim}
use Rattle.places.specs.Places.{victim_told}

pub some_counted : {A : Type 0} (t : A → Bool) (xs : List A) → ltb 0 (count t xs) ≡ any t xs
some_counted t [] = refl
some_counted t (x ∷ xs) = grind (arith, nat_tests, common_steps, some_counted t xs)

-- a block with its load below p, if there is one
abbrev pub light : Option Victim → ℕ → Bool
light None p = false
light (Some v) p = ltb v.load p

abbrev told_light : Option (ℕ × ℕ) → ℕ → Bool
told_light None p = false
told_light (Some q) p = ltb q.1 p

light-better : (b l p : ℕ) (m : Option (ℕ × ℕ)) → told_light (better b l m) p ≡ (ltb l p || told_light m p)
light-better b l p None = grind (arith, nat_tests, common_steps)
light-better b l p (Some q) = grind (arith, nat_tests, common_steps)

light-least : (f : ℕ → ℕ) (p b : ℕ) (ss : List Standing) → told_light (least f b ss) p ≡ some_light f p b ss
light-least f p b [] = refl
light-least f p b (blank_s ∷ ss) = light-least f p (suc b) ss
light-least f p b (open_s ∷ ss) = light-least f p (suc b) ss
light-least f p b (closed_s ∷ ss) = light-better b (f b) p (least f (suc b) ss) ∙ ap (λ (t : Bool). ltb (f b) p || t) (light-least f p (suc b) ss)

same-light : (m : Option Victim) (p : ℕ) → light m p ≡ told_light (victim_told m) p
same-light None p = refl
same-light (Some v) p = refl

pub light_told : (st : Store) (m : Option Victim) (p : ℕ) → p ≡ st.p → victim_told m ≡ to_clean st.flash → light m p ≡ some_light (load st.flash.blocks) st.p 0 st.flash.stand
unfolding to_clean
light_told st m p e h =
    same-light m p
    ∙ ap (λ (q : Option (ℕ × ℕ)). told_light q p) h
    ∙ ap (told_light (to_clean st.flash)) e
    ∙ light-least (load st.flash.blocks) st.p 0 st.flash.stand
