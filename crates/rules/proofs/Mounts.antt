-- What a mount leaves is sound, and a blank block is room for any copies. Assumes nothing.
use Rattle.std.proofs.Common.{◌≡◌, ℕ, zero, suc, ◌<◌, Bool, true, cond, List, [], ◌∷◌, map, length, get_or, replicate, refl, ap, ◌∙◌, arith}
use lib.ListN.{length-map}
use Rattle.flash.specs.declared.chunks.Chunk.{Chunk}
use Rattle.flash.specs.declared.chunks.Chunk.TheVariants.{Blank, Damaged, Holds}
use Rattle.rules.specs.Mounting.{mounted, mounted_block, blank_block}
use Rattle.rules.specs.Safety.{Sound}
use Rattle.rules.specs.declared.standings.Standing.TheVariants.{Blank as blank_s, Open as open_s, Closed as closed_s}

pub blank-block : (cs : List Chunk) → blank_block cs ≡ true → cs ≡ replicate (length cs) Blank
blank-block [] e = refl
blank-block (Blank ∷ cs) e = grind (arith, blank-block cs e)
blank-block (Damaged ∷ cs) e = cc
blank-block (Holds r ∷ cs) e = cc

pub how : (cs : List Chunk) (b : Bool) → blank_block cs ≡ b → cond b blank_s closed_s ≡ blank_s → blank_block cs ≡ true
how cs k e h = grind arith

pub blank-at : (p : ℕ) (bs : List (List Chunk)) → ((i : ℕ) → i < length bs → length (get_or bs i []) ≡ p) → (i : ℕ) → get_or (map mounted_block bs) i closed_s ≡ blank_s → get_or bs i [] ≡ replicate p Blank
blank-at p [] h i e = cc
blank-at p (x ∷ bs) h zero e = blank-block x (how x (blank_block x) refl e) ∙ ap (λ (k : ℕ). replicate k Blank) (h 0 (omega arith))
blank-at p (x ∷ bs) h (suc i) e = blank-at p bs (λ k l. h (suc k) (omega arith)) i e

pub none_open : (bs : List (List Chunk)) (i : ℕ) → get_or (map mounted_block bs) i closed_s ≡ open_s → ⊥
none_open [] i e = cc
none_open (x ∷ bs) zero e = grind arith
none_open (x ∷ bs) (suc i) e = none_open bs i e

pub mounted-sound : (p : ℕ) (bs : List (List Chunk)) → ((i : ℕ) → i < length bs → length (get_or bs i []) ≡ p) → Sound p (mounted bs)
mounted-sound p bs h = grind (arith, blank-at, none_open, length-map)
