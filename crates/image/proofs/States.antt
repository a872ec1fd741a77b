-- A well-made image as a chip, and the calls that read it. Assumes nothing.
use Rattle.std.proofs.Common.{◌≡◌, ℕ, ◌+◌, ◌*◌, ◌<◌, ◌≤◌, Bool, true, false, cond, eqb, List, length, get_or, take, drop, sym, ap, ◌∙◌, subst, ⊎_elim, arith}
use Rattle.std.proofs.Math.Nat.{le_refl, mul_comm}
use Rattle.std.proofs.lemmas.Nat.{row_fits, mul-add-lt}
use Rattle.std.proofs.lemmas.Bool.{cond-true, cases_Bool}
use Rattle.std.proofs.lemmas.Bool.Decides.{nat_tests}
use Rattle.std.specs.declared.ops.Range.{Range}
use Rattle.flash.specs.declared.chunks.Place.{Place}
use Rattle.flash.specs.Model.{State}
use Rattle.image.specs.Format.{misfit, well_made, powered, block_count, chunk_count, start_of, chunk_of, chip_of, no_chip, image_of}
use Rattle.image.specs.declared.heads.Head.{Head}
use Rattle.image.specs.Heads.{HeadOf}
use Rattle.image.specs.Places.{Found, to_end, IsChunk}

pub well-length : (xs : List ℕ) → well_made xs ≡ true → length xs ≡ 8 + block_count xs * chunk_count xs * 2065
well-length xs h = grind (arith, nat_tests)

pub image-is : (xs : List ℕ) → well_made xs ≡ true → image_of xs ≡ chip_of xs
image-is xs h = cond-true (well_made xs) (chip_of xs) no_chip h

has-blocks : (xs : List ℕ) → 0 < (image_of xs).n → well_made xs ≡ true
has-blocks xs h = ⊎_elim
    (λ (w : well_made xs ≡ true). w)
    (λ (w : well_made xs ≡ false). absurd (let e = ap (λ (b : Bool). (cond b (chip_of xs) no_chip).n) w in omega arith))
    (cases_Bool (well_made xs))

-- the length and the head make an image
pub still-well : (xs ys : List ℕ) → well_made xs ≡ true → length ys ≡ length xs → ((j : ℕ) → j < 7 → get_or ys j 0 ≡ get_or xs j 0) → well_made ys ≡ true
still-well xs ys w l e =
    let e0 = e 0 (omega arith) in let e1 = e 1 (omega arith) in let e2 = e 2 (omega arith) in let e3 = e 3 (omega arith) in
    let e4 = e 4 (omega arith) in let e5 = e 5 (omega arith) in let e6 = e 6 (omega arith) in
    let m : misfit ys ≡ misfit xs = cc in
    ap (λ (n : ℕ). eqb n 0) m ∙ w

-- a chunk lies within the bytes
pub room : (xs : List ℕ) (b c : ℕ) → well_made xs ≡ true → b < block_count xs → c < chunk_count xs → start_of (chunk_count xs) b c + 2065 ≤ length xs
room xs b c w h k = omega (arith, well-length xs w, mul-add-lt b (chunk_count xs) c (block_count xs) h k, mul_comm (chunk_count xs) (block_count xs))

-- so do all the chunks of a block
pub block_room : (xs : List ℕ) (b : ℕ) → well_made xs ≡ true → b < block_count xs → start_of (chunk_count xs) b (chunk_count xs) ≤ length xs
block_room xs b w h = omega (arith, well-length xs w, row_fits b (chunk_count xs) (block_count xs) (chunk_count xs) h (le_refl (chunk_count xs)))

-- a chip with blocks is a well-made image
pub record Counted (xs : List ℕ) (b p : ℕ) : Type 0 where
  pub well : well_made xs ≡ true
  pub within : b < block_count xs
  pub chunks : p ≡ chunk_count xs

pub counted : (xs : List ℕ) (b n p : ℕ) → n ≡ (image_of xs).n → p ≡ (image_of xs).p → b < n → Counted xs b p
counted xs b n p en ep h =
    let w : well_made xs ≡ true = has-blocks xs (omega arith) in
    let m = image-is xs w in
    record { well = w; within = omega (arith, en ∙ ap (λ (t : State). t.n) m); chunks = ep ∙ ap (λ (t : State). t.p) m }

pub on-is : (xs : List ℕ) → well_made xs ≡ true → true ≡ (image_of xs).on → powered xs ≡ true
on-is xs w o = sym (o ∙ ap (λ (t : State). t.on) (image-is xs w))

-- what holds of the chip of a well-made image holds of the image
pub at-image : (P : State → Type 0) (xs : List ℕ) → well_made xs ≡ true → P (chip_of xs) → P (image_of xs)
at-image P xs w h = subst P (sym (image-is xs w)) h

-- a chunk that was found, with all later ones of its block
pub to_rest : (xs : List ℕ) (q : Place) (i e : ℕ) (h : Head) → Found xs q (to_end xs q i) → HeadOf (image_of xs) h → e ≡ start_of h.chunks q.block h.chunks → Found xs q (record { start = i; end = e })
to_rest xs q i e h f o n =
    let p : h.chunks ≡ chunk_count xs = o.chunks ∙ ap (λ (t : State). t.p) (image-is xs f.well) in
    subst (λ (k : ℕ). Found xs q (record { start = i; end = k })) (sym (n ∙ ap (λ (k : ℕ). start_of k q.block k) p)) f

-- a chunk of an image that is on, and all later ones of its block
pub found : (xs : List ℕ) (q : Place) (h : Head) (r : Range ℕ) → HeadOf (image_of xs) h → h.on ≡ true → q.block < h.blocks → q.chunk < h.chunks
    → r.start ≡ start_of h.chunks q.block q.chunk → r.end ≡ start_of h.chunks q.block h.chunks → Found xs q r
found xs q h r i o hb hc e f =
    let t = counted xs q.block h.blocks h.chunks i.blocks i.chunks hb in
    let ec = t.chunks in
    record {
      well = t.well;
      ready = on-is xs t.well (sym o ∙ i.power);
      within = record { block = t.within; chunk = omega (arith, hc) };
      here = e ∙ ap (λ (x : ℕ). start_of x q.block q.chunk) ec;
      end_is = f ∙ ap (λ (x : ℕ). start_of x q.block x) ec;
      room = omega (arith, f ∙ ap (λ (x : ℕ). start_of x q.block x) ec, block_room xs q.block t.well t.within);
    }

pub found-at : (xs : List ℕ) (q : Place) (h : Head) (i : ℕ) → HeadOf (image_of xs) h → h.on ≡ true → q.block < h.blocks → q.chunk < h.chunks → i ≡ start_of h.chunks q.block q.chunk → Found xs q (to_end xs q i)
found-at xs q h i o p hb hc e =
    found xs q h (to_end xs q i) o p hb hc e (sym (ap (λ (x : ℕ). start_of x q.block x) (counted xs q.block h.blocks h.chunks o.blocks o.chunks hb).chunks))

-- the bytes of a chunk
pub is_chunk : (xs ys zs : List ℕ) (q : Place) (r : Range ℕ) → Found xs q r → zs ≡ xs → ys ≡ take 2065 (drop r.start zs) → IsChunk (image_of xs) q ys
is_chunk xs ys zs q r f ez e =
    at-image (λ s. IsChunk s q ys) xs f.well
    (record { ready = f.ready; within = f.within; is = ap chunk_of (e ∙ (λ i. take 2065 (drop (f.here i) (ez i)))) })
