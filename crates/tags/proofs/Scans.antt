-- The records that looks tell of have the tags that the looks tell. Assumes nothing.
use Rattle.std.proofs.Common.{◌≡◌, ℕ, max, Bool, ◌||◌, List, [], ◌∷◌, sym, refl, ap, ◌∙◌, arith}
use Rattle.std.specs.List.{filter_map, list_any, fold}
use Rattle.flash.specs.declared.chunks.Tag.{Tag}
use Rattle.flash.specs.declared.chunks.Record.{Record}
use Rattle.flash.specs.declared.chunks.Look.{Look}
use Rattle.flash.specs.declared.chunks.Look.TheVariants.{Blank, Damaged, Record as record_l}
use Rattle.flash.specs.Chunks.{tag_in}
use Rattle.rules.specs.Lists.{any, largest}
use Rattle.tags.specs.Bare.{bare_tag, records}

pub any-tags : (p : Record → Bool) (xs : List Look) → any p (records xs) ≡ list_any (λ t. p (bare_tag t)) (filter_map tag_in xs)
any-tags p [] = refl
any-tags p (Blank ∷ xs) = any-tags p xs
any-tags p (Damaged ∷ xs) = any-tags p xs
any-tags p (record_l t ∷ xs) = ap (λ (b : Bool). p (bare_tag t) || b) (any-tags p xs)

-- a fold of the larger one goes on from what it has
larger : (f : Tag → ℕ) (n m : ℕ) (ts : List Tag) → fold (λ a t. max a (f t)) (max n m) ts ≡ max n (fold (λ a t. max a (f t)) m ts)
larger f n m [] = refl
larger f n m (t ∷ ts) = ap (λ (k : ℕ). fold (λ a t. max a (f t)) k ts) (let e : max (max n m) (f t) ≡ max n (max m (f t)) = omega arith in e) ∙ larger f n (max m (f t)) ts

pub largest-tags : (f : Record → ℕ) (xs : List Look) → largest f (records xs) ≡ fold (λ n t. max n (f (bare_tag t))) 0 (filter_map tag_in xs)
largest-tags f [] = refl
largest-tags f (Blank ∷ xs) = largest-tags f xs
largest-tags f (Damaged ∷ xs) = largest-tags f xs
largest-tags f (record_l t ∷ xs) =
    ap (max (f (bare_tag t))) (largest-tags f xs)
    ∙ sym (larger (λ s. f (bare_tag s)) (f (bare_tag t)) 0 (filter_map tag_in xs))
    ∙ ap (λ (k : ℕ). fold (λ a s. max a (f (bare_tag s))) k (filter_map tag_in xs)) (let e : max (f (bare_tag t)) 0 ≡ max 0 (f (bare_tag t)) = omega arith in e)
