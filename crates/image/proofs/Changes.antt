-- A chip after each call that writes. Assumes nothing.
use Rattle.std.proofs.Common.{◌≡◌, ℕ, ◌+◌, ◌-◌, ◌<◌, ◌≤◌, true, eqb, ◌≢◌, List, ◌++◌, length, get_or, take, drop, set, vec_items, Vec, sym, ap, ◌∙◌, subst, inl, ⊎_elim, arith, rules}
use borrow.Rule.Slice.PartMut.{put_mid}
use Rattle.std.proofs.lemmas.List.{places, length-take-le, length-set, get_or-set_same, get_or-set_other, drop-set-lt, take_at, drop_at, with_items_is}
use Rattle.std.proofs.lemmas.Grind.{get_or-set_at}
use Rattle.std.proofs.lemmas.Bool.{cases_eq}
use Rattle.std.specs.Vec.{with_items}
use Rattle.std.specs.declared.ops.Range.{Range}
use Rattle.std.specs.declared.alloc.Global.{Global}
use Rattle.flash.specs.declared.chunks.Place.{Place}
use Rattle.flash.specs.declared.chunks.Record.{Record}
use Rattle.flash.specs.Chunks.{Whole}
use Rattle.flash.specs.Model.{started}
use Rattle.flash.specs.Reads.{Within}
use Rattle.flash.specs.Writes.{BlankFrom, ProgramDone, IsBlank, Erases}
use Rattle.image.specs.Format.{well_made, powered, block_count, chunk_count, start_of, bytes_at, chunk_of, chip_of, image_of}
use Rattle.image.specs.Codes.{code_of, programmed, Cleared}
use Rattle.image.specs.Places.{Found}
use Rattle.image.proofs.Coded.{blank-told, record-read, length-code}
use Rattle.image.proofs.Spots.{apart, same_bytes, state-at}
use Rattle.image.specs.declared.heads.Head.{Head}
use Rattle.image.specs.Heads.{HeadOf}
use Rattle.image.proofs.States.{well-length, image-is, still-well, room, at-image, counted, on-is}

-- the bytes of a programmed chunk, and those before and after it
module _ (xs : List ℕ) (s : ℕ) (r : Record) (h : s + 2065 ≤ length xs) (w : Whole r) where
  pub programmed-long : length (programmed xs s r) ≡ length xs
  programmed-long = let d = length-code r w in search (rules, places)

  pub programmed-here : bytes_at (programmed xs s r) s ≡ code_of r
  programmed-here =
      ap (take 2065) (drop_at (take s xs) (code_of r ++ drop (s + 2065) xs) s (length-take-le s xs (omega arith))) ∙ take_at (code_of r) (drop (s + 2065) xs) 2065 (length-code r w)

  pub programmed-before : (i : ℕ) → i < s → get_or (programmed xs s r) i 0 ≡ get_or xs i 0
  programmed-before i g = let d = length-code r w in search (rules, places)

  pub programmed-after : (i : ℕ) → s + 2065 ≤ i → get_or (programmed xs s r) i 0 ≡ get_or xs i 0
  programmed-after i g = let d = length-code r w in search (rules, places)

-- a slice of the image with a record written to it
laid : (zs xs cs : List ℕ) (s : ℕ) (r : Record) → zs ≡ xs → cs ≡ code_of r → put_mid s (s + 2065 - s) zs cs ≡ programmed xs s r
laid zs xs cs s r ez ec = search (rules, places)

vec-programmed : {Z : Type 0} (v : Vec ℕ Z) (zs cs : List ℕ) (s : ℕ) (r : Record) → zs ≡ vec_items v → cs ≡ code_of r → s + 2065 ≤ length (vec_items v) → Whole r
    → vec_items (with_items v (put_mid s (s + 2065 - s) zs cs)) ≡ programmed (vec_items v) s r
vec-programmed v zs cs s r ez ec h w =
    let e = laid zs (vec_items v) cs s r ez ec in
    with_items_is v (put_mid s (s + 2065 - s) zs cs) (ap length e ∙ programmed-long (vec_items v) s r h w ∙ sym v.ok.0) ∙ e

-- a chunk that was found has its bytes
fits : (xs : List ℕ) (q : Place) (i : Range ℕ) → Found xs q i → i.start + 2065 ≤ length xs
fits xs q i f = omega (arith, f.here, f.end_is, f.room, f.within.chunk)

pub program-done : (v : Vec ℕ Global) (zs cs : List ℕ) (q : Place) (i : Range ℕ) (r : Record) → Found (vec_items v) q i → BlankFrom (chip_of (vec_items v)) q → Whole r → zs ≡ vec_items v → cs ≡ code_of r
    → ProgramDone (image_of (vec_items v)) q r (image_of (vec_items (with_items v (put_mid i.start (i.start + 2065 - i.start) zs cs))))
program-done v zs cs q i r f b w ez ec =
    let xs = vec_items v in
    let ys = programmed xs i.start r in
    let g = fits xs q i f in
    let i8 = f.here in
    let p = chunk_count xs in
    let long = programmed-long xs i.start r g w in
    let head : (j : ℕ) → j < 8 → get_or ys j 0 ≡ get_or xs j 0 = λ j h. programmed-before xs i.start r g w j (omega arith) in
    let wy = still-well xs ys f.well long (λ j h. head j (omega arith)) in
    let h5 = head 5 (omega arith) in
    let h6 = head 6 (omega arith) in
    let h7 = head 7 (omega arith) in
    let P : List ℕ → Type 0 = λ ws. ProgramDone (image_of xs) q r (image_of ws) in
    subst P (sym (vec-programmed v zs cs i.start r ez ec g w))
    (at-image (λ s. ProgramDone s q r (image_of ys)) xs f.well (at-image (λ t. ProgramDone (chip_of xs) q r t) ys wy
    (record {
      taken = record {
        ready = f.ready;
        within = f.within;
        blanks = b;
      };
      power = ap (λ (n : ℕ). eqb n 1) h7 ∙ f.ready;
      after = record {
        n_same = h5;
        p_same = h6;
        here = ap (λ (n : ℕ). chunk_of (bytes_at ys (start_of n q.block q.chunk))) h6 ∙ ap (λ (n : ℕ). chunk_of (bytes_at ys n)) (sym i8)
            ∙ ap chunk_of (programmed-here xs i.start r g w) ∙ record-read r w;
        there = λ k j hk hj d.
            let m = room xs k j f.well hk hj in
            let away = apart p q.block q.chunk k j f.within.chunk hj d in
            ap (λ (n : ℕ). chunk_of (bytes_at ys (start_of n k j))) h6
            ∙ ap chunk_of (same_bytes xs ys (start_of p k j) m long (λ x lo hi. ⊎_elim
            (λ (u : start_of p k j + 2065 ≤ start_of p q.block q.chunk). programmed-before xs i.start r g w x (omega arith))
            (λ (u : start_of p q.block q.chunk + 2065 ≤ start_of p k j). programmed-after xs i.start r g w x (omega arith))
            away));
      };
    })))

-- the first n chunks of block b cleared, of p that have room
pub record Clearing (xs : List ℕ) (p b n : ℕ) (ys : List ℕ) : Type 0 where
  pub room : start_of p b p ≤ length xs
  pub cleared : Cleared xs p b n ys

-- one state byte more
pub cleared_more : (xs ys zs : List ℕ) (p b n s : ℕ) → Clearing xs p b n ys → s ≡ start_of p b n → n < p → zs ≡ set ys s 255 → Clearing xs p b (n + 1) zs
cleared_more xs ys zs p b n s c at h z =
    let e = c.cleared in
    let l = e.long in
    subst (Clearing xs p b (n + 1)) (sym z) (record {
      room = c.room;
      cleared = record {
        long = length-set ys s 255 ∙ l;
        here = λ k g. ⊎_elim
            (λ (u : k ≡ n). get_or-set_at ys s (start_of p b k) 255 0 (omega arith) (omega (arith, c.room)))
            (λ (u : k ≢ n). get_or-set_other ys s (start_of p b k) 255 0 (let ne : start_of p b k ≢ s = omega arith in ne) ∙ e.here k (omega arith))
            (cases_eq k n);
        there = λ i g. get_or-set_other ys s i 255 0 (let m = g n (omega arith) in let ne : i ≢ s = omega arith in ne) ∙ e.there i (λ j k. g j (omega arith));
      };
    })

cleared-well : (xs ys : List ℕ) (p b n : ℕ) → Cleared xs p b n ys → well_made xs ≡ true → well_made ys ≡ true
cleared-well xs ys p b n e w = still-well xs ys w e.long (λ j h. e.there j (λ c hc u. absurd (omega arith)))

-- block b erased
pub erase-done : (xs ys : List ℕ) (b : ℕ) → well_made xs ≡ true → powered xs ≡ true → b < block_count xs → Cleared xs (chunk_count xs) b (chunk_count xs) ys → Erases IsBlank true (image_of xs) b (image_of ys)
erase-done xs ys b w o hb e =
    let p = chunk_count xs in
    let head : (j : ℕ) → j < 8 → get_or ys j 0 ≡ get_or xs j 0 = λ j h. e.there j (λ c hc u. absurd (omega arith)) in
    let wy = cleared-well xs ys p b p e w in
    let h6 = head 6 (omega arith) in
    at-image (λ s. Erases IsBlank true s b (image_of ys)) xs w (at-image (λ t. Erases IsBlank true (chip_of xs) b t) ys wy
    (record {
      ready = o;
      within = hb;
      left_on = ap (λ (n : ℕ). eqb n 1) (head 7 (omega arith)) ∙ o;
      after = record {
        n_same = head 5 (omega arith);
        p_same = h6;
        here = λ j hj. ap (λ (n : ℕ). chunk_of (bytes_at ys (start_of n b j))) h6
            ∙ blank-told (bytes_at ys (start_of p b j)) (state-at ys (start_of p b j) ∙ e.here j hj);
        there = λ k j hk hj d. ap (λ (n : ℕ). chunk_of (bytes_at ys (start_of n k j))) h6
            ∙ ap chunk_of (same_bytes xs ys (start_of p k j) (room xs k j w hk hj) e.long
            (λ x lo hi. e.there x (λ c hc u. ⊎_elim
            (λ (v : start_of p k j + 2065 ≤ start_of p b c). omega arith)
            (λ (v : start_of p b c + 2065 ≤ start_of p k j). omega arith)
            (apart p b c k j hc hj (inl d)))));
      };
    }))

-- what an erase promises
pub erased : (xs ys : List ℕ) (b n : ℕ) (h : Head) → HeadOf (image_of xs) h → h.on ≡ true → b < h.blocks → n ≡ h.chunks → Cleared xs h.chunks b n ys
    → record { rules : Erases IsBlank true (image_of xs) b (image_of ys); bytes : Cleared xs (chunk_count xs) b (chunk_count xs) ys }
erased xs ys b n h i o hb en e =
    let t = counted xs b h.blocks h.chunks i.blocks i.chunks hb in
    let P : ℕ → Type 0 = λ p. Cleared xs p b p ys in
    let Q : ℕ → Type 0 = λ m. Cleared xs h.chunks b m ys in
    let e2 = subst P t.chunks (subst Q en e) in
    record { rules = erase-done xs ys b t.well (on-is xs t.well (sym o ∙ i.power)) t.within e2; bytes = e2 }

-- the power switched on
pub restart_done : (xs : List ℕ) → well_made xs ≡ true → image_of (set xs 7 1) ≡ started (image_of xs)
restart_done xs w =
    let ys = set xs 7 1 in
    let head : (j : ℕ) → j < 7 → get_or ys j 0 ≡ get_or xs j 0 = λ j h. get_or-set_other xs 7 j 1 0 (let ne : j ≢ 7 = omega arith in ne) in
    let cell : (b c : ℕ) → chunk_of (bytes_at ys (start_of (chunk_count ys) b c)) ≡ chunk_of (bytes_at xs (start_of (chunk_count xs) b c))
    = λ b c. ap (λ (n : ℕ). chunk_of (bytes_at ys (start_of n b c))) (head 6 (omega arith)) ∙ ap (λ (zs : List ℕ). chunk_of (take 2065 zs)) (drop-set-lt (start_of (chunk_count xs) b c) xs 7 1 (omega arith)) in
    image-is ys (still-well xs ys w (length-set xs 7 1) head)
    ∙ (λ i. record { n = head 5 (omega arith) i; p = head 6 (omega arith) i; on = eqb (get_or-set_same xs 7 1 0 (omega (arith, well-length xs w)) i) 1; cells = λ b c. cell b c i })
    ∙ sym (ap started (image-is xs w))

-- program refused: not blank from there on
pub not-blank : (xs : List ℕ) (q : Place) (i : Range ℕ) → Found xs q i → (BlankFrom (chip_of xs) q → ⊥) → ((image_of xs).on ≡ true) × Within (image_of xs) q × (BlankFrom (image_of xs) q → ⊥)
not-blank xs q i f no-blank = at-image (λ s. (s.on ≡ true) × Within s q × (BlankFrom s q → ⊥)) xs f.well (f.ready, f.within, no-blank)
