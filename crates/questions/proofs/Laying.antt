-- Bytes laid over the front of a buffer, one part after another. Assumes nothing.
use Rattle.std.proofs.Common.{◌≡◌, ℕ, ◌+◌, ◌-◌, ◌<◌, ◌≤◌, min, List, ◌++◌, length, get_or, take, drop, replicate, Some, None, sym, refl, ap, ◌∙◌, ⊎_elim, arith, rules}
use borrow.Rule.Slice.PartMut.{put_mid}
use Rattle.std.proofs.lemmas.List.{places, ext_get_or, get_or_append_left, get_or-append_right, get_or-drop, get_or-take, get_or_past, get_or-replicate, length-append, length-drop, length-take, length-replicate}
use Rattle.std.proofs.lemmas.Bool.{cases_lt}
use Rattle.flash.specs.Model.{tab}
use Rattle.flash.proofs.Views.{length-tab, tab-at}
use Rattle.rules.specs.Calls.{byte_in}
use Rattle.questions.specs.Reads.{laid}

module _ (byte : ℕ → ℕ) (pos : ℕ) where
  laid-front : (n k : ℕ) (was : List ℕ) → k < n → get_or (laid byte pos n was) k 0 ≡ byte (pos + k)
  laid-front n k was h = let l = length-tab byte pos n in get_or_append_left (tab byte pos n) (drop n was) 0 k (omega arith) ∙ tab-at byte pos n k 0 h

  laid-beyond : (n k : ℕ) (was : List ℕ) → n ≤ k → get_or (laid byte pos n was) k 0 ≡ get_or was k 0
  laid-beyond n k was h =
      get_or-append_right (tab byte pos n) (drop n was) n k 0 (length-tab byte pos n) h ∙ get_or-drop n was (k - n) 0
      ∙ ap (λ (z : ℕ). get_or was z 0) (let e : n + (k - n) ≡ k = omega arith in e)

  pub laid-long : (n : ℕ) (was : List ℕ) → n ≤ length was → length (laid byte pos n was) ≡ length was
  laid-long n was h = omega (arith, length-append (tab byte pos n) (drop n was), length-tab byte pos n, length-drop n was)

  -- what is laid, byte by byte
  pub laid-is : (n : ℕ) (was is : List ℕ) → n ≤ length was → length is ≡ length was → ((k : ℕ) → k < n → get_or is k 0 ≡ byte (pos + k)) → ((k : ℕ) → n ≤ k → get_or is k 0 ≡ get_or was k 0) → is ≡ laid byte pos n was
  laid-is n was is h l front beyond =
      ext_get_or 0 is (laid byte pos n was) (l ∙ sym (laid-long n was h))
      (λ k g. ⊎_elim
      (λ (x : k < n). front k x ∙ sym (laid-front n k was x))
      (λ (x : n ≤ k). beyond k x ∙ sym (laid-beyond n k was x))
      (cases_lt k n))

  pub laid_none : (was : List ℕ) → was ≡ laid byte pos 0 was
  unfolding tab
  laid_none was = refl

-- the bytes of a whole chunk, as they are read
pub record Shown (byte : ℕ → ℕ) (bytes : List ℕ) : Type 0 where
  pub long : length bytes ≡ 2048
  pub each : (k : ℕ) → k < 2048 → get_or bytes k 0 ≡ byte k

zero-at : (w k : ℕ) (ys : List ℕ) → ys ≡ replicate w 0 → k < w → get_or ys k 0 ≡ 0
zero-at w k ys e h = ap (λ (zs : List ℕ). get_or zs k 0) e ∙ get_or-replicate w k 0 0 h

pub shown-none : (w : ℕ) (bytes : List ℕ) → w ≡ 2048 → bytes ≡ replicate w 0 → Shown (byte_in None) bytes
shown-none w bytes h e = record {
  long = ap length e ∙ length-replicate w 0 ∙ h;
  each = λ k l. zero-at w k bytes e (omega arith);
}

cleared-before : (w n k : ℕ) (xs ys : List ℕ) → length xs ≡ w → n ≤ w → k < n → get_or (put_mid n (w - n) xs ys) k 0 ≡ get_or xs k 0
cleared-before w n k xs ys l h g = search (rules, places)

cleared-after : (w n k : ℕ) (xs ys : List ℕ) → length xs ≡ w → n ≤ k → k < w → length ys ≡ w - n → get_or (put_mid n (w - n) xs ys) k 0 ≡ get_or ys (k - n) 0
cleared-after w n k xs ys l h g m = search (rules, places)

cleared-long : (w n : ℕ) (xs ys : List ℕ) → length xs ≡ w → n ≤ w → length ys ≡ w - n → length (put_mid n (w - n) xs ys) ≡ w
cleared-long w n xs ys l h m = search (rules, places)

-- those past the byte count are cleared
pub shown-some : (count n : ℕ) (xs ys bytes : List ℕ) → length xs ≡ 2048 → n ≡ min 2048 count → ys ≡ replicate (length (take (2048 - n) (drop n xs))) 0
    → bytes ≡ put_mid n (2048 - n) xs ys → Shown (byte_in (Some (take count xs))) bytes
shown-some count n xs ys bytes l e f b =
    let m = length-take (2048 - n) (drop n xs) in
    let d = length-drop n xs in
    let w : length (take (2048 - n) (drop n xs)) ≡ 2048 - n = omega arith in
    let y : length ys ≡ 2048 - n = ap length f ∙ length-replicate (length (take (2048 - n) (drop n xs))) 0 ∙ w in
    let z : ys ≡ replicate (2048 - n) 0 = f ∙ ap (λ (i : ℕ). replicate i 0) w in
    let c = length-take count xs in
    record {
      long = ap length b ∙ cleared-long 2048 n xs ys l (omega arith) y;
      each = λ k h. ap (λ (zs : List ℕ). get_or zs k 0) b ∙ ⊎_elim
          (λ (x : k < n). cleared-before 2048 n k xs ys l (omega arith) x ∙ sym (get_or-take count xs k 0 (omega arith)))
          (λ (x : n ≤ k). cleared-after 2048 n k xs ys l x h y ∙ zero-at (2048 - n) (k - n) ys z (omega arith) ∙ sym (get_or_past (take count xs) k 0 (omega arith)))
          (cases_lt k n);
    }

copied-front : (xs part : List ℕ) (offset n k : ℕ) → k < n → offset + n ≤ length xs → get_or (take (offset + n - offset) (drop offset xs) ++ drop n part) k 0 ≡ get_or xs (offset + k) 0
copied-front xs part offset n k h l = search (rules, places)

copied-beyond : (xs part : List ℕ) (offset n k : ℕ) → n ≤ k → offset + n ≤ length xs → get_or (take (offset + n - offset) (drop offset xs) ++ drop n part) k 0 ≡ get_or part k 0
copied-beyond xs part offset n k h l = search (rules, places)

copied-long : (xs part : List ℕ) (offset n : ℕ) → n ≤ length part → offset + n ≤ length xs → length (take (offset + n - offset) (drop offset xs) ++ drop n part) ≡ length part
copied-long xs part offset n h l = search (rules, places)

-- a part of the buffer takes a chunk's bytes from an offset on
pub copied : (byte : ℕ → ℕ) (bytes ys part : List ℕ) (offset n : ℕ) → Shown byte bytes → offset + n ≤ 2048 → n ≤ length part → ys ≡ take (offset + n - offset) (drop offset bytes)
    → ys ++ drop n part ≡ laid byte offset n part
copied byte bytes ys part offset n s h l e =
    let w = s.long in
    ap (λ (zs : List ℕ). zs ++ drop n part) e
    ∙ laid-is byte offset n part (take (offset + n - offset) (drop offset bytes) ++ drop n part) l (copied-long bytes part offset n l (omega arith))
    (λ k g. copied-front bytes part offset n k g (omega arith) ∙ s.each (offset + k) (omega arith))
    (λ k g. copied-beyond bytes part offset n k g (omega arith))

before : (cur part : List ℕ) (at count k : ℕ) → k < at → at ≤ length cur → get_or (put_mid at (count - at) cur part) k 0 ≡ get_or cur k 0
before cur part at count k h l = search (rules, places)

inside : (cur part : List ℕ) (at count k : ℕ) → at ≤ k → k < count → count ≤ length cur → length part ≡ count - at → get_or (put_mid at (count - at) cur part) k 0 ≡ get_or part (k - at) 0
inside cur part at count k h l m e = search (rules, places)

past : (cur part : List ℕ) (at count k : ℕ) → at ≤ count → count ≤ k → count ≤ length cur → length part ≡ count - at → get_or (put_mid at (count - at) cur part) k 0 ≡ get_or cur k 0
past cur part at count k g h m e = search (rules, places)

within : (cur : List ℕ) (at count k : ℕ) → at ≤ k → k < count → get_or (take (count - at) (drop at cur)) (k - at) 0 ≡ get_or cur k 0
within cur at count k h l = search (rules, places)

put-long : (cur part : List ℕ) (at count : ℕ) → at ≤ count → count ≤ length cur → length part ≡ count - at → length (put_mid at (count - at) cur part) ≡ length cur
put-long cur part at count h l e = search (rules, places)

lent-long : (cur : List ℕ) (at count : ℕ) → count ≤ length cur → length (take (count - at) (drop at cur)) ≡ count - at
lent-long cur at count h = search (rules, places)

-- one part more
pub laid_more : (f g : ℕ → ℕ) (pos offset at n count : ℕ) (was cur part : List ℕ) → at ≤ count → count ≤ length was → n ≤ count - at → ((k : ℕ) → k < n → g (offset + k) ≡ f (pos + at + k))
    → cur ≡ laid f pos at was → part ≡ laid g offset n (take (count - at) (drop at cur)) → put_mid at (count - at) cur part ≡ laid f pos (at + n) was
laid_more f g pos offset at n count was cur part h l m same u e =
    let cl : length cur ≡ length was = ap length u ∙ laid-long f pos at was (omega arith) in
    let ll = lent-long cur at count (omega arith) in
    let pl : length part ≡ count - at = ap length e ∙ laid-long g offset n (take (count - at) (drop at cur)) (omega arith) ∙ ll in
    laid-is f pos (at + n) was (put_mid at (count - at) cur part) (omega arith) (put-long cur part at count h (omega arith) pl ∙ cl)
    (λ k x. ⊎_elim
    (λ (y : k < at). before cur part at count k y (omega arith) ∙ ap (λ (zs : List ℕ). get_or zs k 0) u ∙ laid-front f pos at k was y)
    (λ (y : at ≤ k). inside cur part at count k y (omega arith) (omega arith) pl ∙ ap (λ (zs : List ℕ). get_or zs (k - at) 0) e ∙ laid-front g offset n (k - at) (take (count - at) (drop at cur)) (omega arith)
    ∙ same (k - at) (omega arith) ∙ ap f (let q : pos + at + (k - at) ≡ pos + k = omega arith in q))
    (cases_lt k at))
    (λ k x. ⊎_elim
    (λ (y : k < count). inside cur part at count k (omega arith) y (omega arith) pl ∙ ap (λ (zs : List ℕ). get_or zs (k - at) 0) e ∙ laid-beyond g offset n (k - at) (take (count - at) (drop at cur)) (omega arith)
    ∙ within cur at count k (omega arith) y ∙ ap (λ (zs : List ℕ). get_or zs k 0) u ∙ laid-beyond f pos at k was (omega arith))
    (λ (y : count ≤ k). past cur part at count k h y (omega arith) pl ∙ ap (λ (zs : List ℕ). get_or zs k 0) u ∙ laid-beyond f pos at k was (omega arith))
    (cases_lt k count))
