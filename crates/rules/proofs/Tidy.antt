-- Standings tell the contents: one block at most is open, and a block stands blank when all its chunks are. Assumes nothing.
use Rattle.std.proofs.Common.{◌≡◌, ℕ, zero, suc, ◌+◌, ◌<◌, true, cond, eqb, List, [], ◌∷◌, ◌++◌, map, length, get_or, set, replicate, Some, None, Option, sym, refl, ap, ◌∙◌, subst, arith, length-set, get_or-set_other, get_or-set_same}
use Rattle.flash.specs.declared.chunks.Record.{Record}
use Rattle.flash.specs.declared.chunks.Chunk.{Chunk}
use Rattle.flash.specs.declared.chunks.Chunk.TheVariants.{Blank, Damaged, Holds}
use Rattle.rules.specs.Lists.{or_else, first_where}
use Rattle.rules.specs.Places.{is_open_s, Flash, erasing, runs, programmed, copies, copy_at, copy_place, open_place, blank_place, does}
use Rattle.rules.specs.Mounting.{mounted, mounted_block, blank_block}
use Rattle.rules.specs.Safety.{Sound, RoomFor}
use Rattle.rules.specs.declared.standings.Standing.{Standing}
use Rattle.rules.specs.declared.standings.Standing.TheVariants.{Blank as blank_s, Open as open_s, Closed as closed_s}
use Rattle.rules.proofs.Cleaning.{found, found_at, Spot, spot, Next, next}
use Rattle.rules.proofs.Mounts.{none_open}

pub record Tidy (p : ℕ) (s : Flash) : Type 0 where
  pub lone : (i j : ℕ) → get_or s.stand i closed_s ≡ open_s → get_or s.stand j closed_s ≡ open_s → i ≡ j
  pub blanked : (i : ℕ) → i < length s.blocks → get_or s.blocks i [] ≡ replicate p Blank → get_or s.stand i closed_s ≡ blank_s

pub pair_is : (x y : ℕ × ℕ) → Some x ≡ Some y → (x.0 ≡ y.0) × (x.1 ≡ y.1)
pair_is x y e = grind arith

pub open_in : (ss : List Standing) (i : ℕ) → get_or ss i closed_s ≡ open_s → i < length ss
open_in [] i e = cc
open_in (x ∷ ss) zero e = omega arith
open_in (x ∷ ss) (suc i) e = omega (arith, open_in ss i e)

-- no block is open, or the first of them has a first blank chunk
abbrev pub Opened : Flash → Option (ℕ × ℕ) → Type 0
Opened s None = first_where is_open_s s.stand ≡ None
Opened s (Some q) = (first_where is_open_s s.stand ≡ Some q.0) × Spot (get_or s.blocks q.0 []) q.1

pub open-place : (p : ℕ) (s : Flash) → Sound p s → Opened s (open_place s)
unfolding open_place
open-place p s ok = grind (arith, spot, found_at)

pub none-opened : (s : Flash) → first_where is_open_s s.stand ≡ None → (i : ℕ) → get_or s.stand i closed_s ≡ open_s → ⊥
none-opened s f i e = grind (arith, found, open_in)

pub first-opened : (p : ℕ) (s : Flash) → Tidy p s → (b : ℕ) → first_where is_open_s s.stand ≡ Some b → (i : ℕ) → get_or s.stand i closed_s ≡ open_s → i ≡ b
first-opened p s t b f i e = grind (arith, found_at)

copy-only : (p : ℕ) (s : Flash) → Sound p s → Tidy p s → (b c : ℕ) → copy_place s ≡ Some (b, c) → (i : ℕ) → get_or s.stand i closed_s ≡ open_s → i ≡ b
unfolding copy_place
copy-only p s ok t b c q i e = go (open_place s) (open-place p s ok) q
  where
    go : (m : Option (ℕ × ℕ)) → Opened s m → or_else m (blank_place s) ≡ Some (b, c) → i ≡ b
    go k h d = grind (arith, none-opened, first-opened)

hit : (cs : List Chunk) (c : ℕ) (r : Record) → get_or cs c Damaged ≡ Blank → get_or (set cs c (Holds r)) c Blank ≡ Holds r
hit [] c r e = cc
hit (x ∷ cs) zero r e = refl
hit (x ∷ cs) (suc c) r e = hit cs c r e

all_same : (p c : ℕ) → get_or (replicate p Blank) c Blank ≡ Blank
all_same zero c = refl
all_same (suc p) zero = refl
all_same (suc p) (suc c) = all_same p c

-- a program
pub tidy-program : (p : ℕ) (s : Flash) → Sound p s → Tidy p s → (b c : ℕ) (r : Record) → b < length s.stand → Spot (get_or s.blocks b []) c
    → ((i : ℕ) → get_or s.stand i closed_s ≡ open_s → i ≡ b) → Tidy p (programmed s b c r)
unfolding programmed
tidy-program p s ok t b c r inside at only = record {
  lone = λ i j x y. was i x ∙ sym (was j y);
  blanked = grind (arith, get_or-set_other, length-set, full);
}
  where
    was : (i : ℕ) → get_or (set s.stand b (cond (eqb (suc c) (length (get_or s.blocks b []))) closed_s open_s)) i closed_s ≡ open_s → i ≡ b
    was i x = grind (arith, get_or-set_other)

    full : get_or (set s.blocks b (set (get_or s.blocks b []) c (Holds r))) b [] ≡ replicate p Blank → ⊥
    full e =
        let f : set (get_or s.blocks b []) c (Holds r) ≡ replicate p Blank = sym (grind (arith, get_or-set_same)) ∙ e in
        let g : Holds r ≡ Blank = sym (hit (get_or s.blocks b []) c r at.free) ∙ ap (λ (z : List Chunk). get_or z c Blank) f ∙ all_same p c in
        (cc)

pub tidy-copies : (p m : ℕ) (rs : List Record) (s : Flash) → Sound p s → Tidy p s → RoomFor p s (length rs + m) → Tidy p (runs s (copies s rs))
tidy-copies p m [] s ok t room = t
tidy-copies p m (r ∷ rs) s ok t room =
    let q : Next p s (length rs + m) r = next p s ok (length rs + m) r (subst (RoomFor p s) (let e : suc (length rs) + m ≡ suc (length rs + m) = omega arith in e) room) in
    subst (λ (z : Option (ℕ × ℕ)). Tidy p (runs s (copy_at r z ++ copies (runs s (copy_at r z)) rs))) (sym q.is)
    (tidy-copies p m rs (programmed s q.b q.c r) q.sound (tidy-program p s ok t q.b q.c r q.inside q.at (copy-only p s ok t q.b q.c q.is)) q.room)

pub tidy-erase : (p : ℕ) (s : Flash) (v : ℕ) → Tidy p s → v < length s.stand → Tidy p (does s (erasing v))
tidy-erase p s v t l = grind (arith, get_or-set_same, get_or-set_other, length-set)

blanks : (p : ℕ) → blank_block (replicate p Blank) ≡ true
blanks zero = refl
blanks (suc p) = blanks p

mounted-blank : (p : ℕ) (bs : List (List Chunk)) (i : ℕ) → i < length bs → get_or bs i [] ≡ replicate p Blank → get_or (map mounted_block bs) i closed_s ≡ blank_s
mounted-blank p [] i l e = absurd (omega arith)
mounted-blank p (x ∷ bs) zero l e = grind (arith, blanks)
mounted-blank p (x ∷ bs) (suc i) l e = mounted-blank p bs i (omega arith) e

pub tidy-mounted : (p : ℕ) (bs : List (List Chunk)) → Tidy p (mounted bs)
tidy-mounted p bs = grind (arith, none_open, mounted-blank)
