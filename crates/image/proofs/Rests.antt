-- A chunk and all later ones of its block, as bytes and as chunks. Assumes nothing.
use Rattle.std.proofs.Common.{◌≡◌, ℕ, zero, suc, ◌+◌, ◌-◌, ◌*◌, ◌/◌, ◌<◌, List, [], length, get_or, take, drop, sym, refl, ap, ◌∙◌, rules, arith}
use Rattle.std.specs.Simd.{first_chunks}
use Rattle.std.specs.declared.ops.Range.{Range}
use Rattle.std.proofs.lemmas.List.{places, drop-drop, length-take-le, length-drop}
use Rattle.flash.specs.declared.chunks.Place.{Place}
use Rattle.flash.specs.Writes.{BlankFrom}
use Rattle.image.specs.Format.{chunk_count, start_of, bytes_at, chip_of}
use Rattle.image.specs.Places.{Found, AllBlank}
use Rattle.image.proofs.Coded.{blank-told, blank-state}
use Rattle.image.proofs.Spots.{state-at}

-- the k-th of m chunks
chunk-at : (k m : ℕ) (xs : List ℕ) → k < m → get_or (first_chunks 2065 m xs) k [] ≡ take 2065 (drop (k * 2065) xs)
chunk-at k zero xs h = absurd (omega arith)
chunk-at zero (suc m) xs h = refl
chunk-at (suc k) (suc m) xs h =
    chunk-at k m (drop 2065 xs) (omega arith) ∙ ap (take 2065) (drop-drop (k * 2065) 2065 xs) ∙ ap (λ (i : ℕ). take 2065 (drop i xs)) (let e : 2065 + k * 2065 ≡ suc k * 2065 = omega arith in e)

module _ (xs zs : List ℕ) (q : Place) (r : Range ℕ) (cs : List (List ℕ)) (f : Found xs q r) (e : zs ≡ xs) where
  abbrev rest : List ℕ
  rest = take (r.end - r.start) (drop r.start zs)

  module _ (front : cs ≡ first_chunks 2065 (length rest / 2065) rest) (long : length cs ≡ length rest / 2065) where
    count : length cs + q.chunk ≡ chunk_count xs
    count = let l = length-take-le (r.end - r.start) (drop r.start zs) (omega (arith, length-drop r.start zs, ap length e, f.room)) in omega (arith, f.here, f.end_is, f.within.chunk)

    state : (k : ℕ) → k < length cs → get_or (get_or cs k []) 0 0 ≡ get_or xs (start_of (chunk_count xs) q.block (q.chunk + k)) 0
    state k h =
        let n : r.start + (k * 2065 + 0) ≡ start_of (chunk_count xs) q.block (q.chunk + k) = omega (arith, f.here) in
        let m : k * 2065 + 0 < r.end - r.start = omega (arith, f.here, f.end_is, count) in
        ap (λ (ys : List ℕ). get_or ys 0 0) (ap (λ (ds : List (List ℕ)). get_or ds k []) front ∙ chunk-at k (length rest / 2065) rest (omega arith))
        ∙ search (rules, places) ∙ (λ j. get_or (e j) (n j) 0)

    pub all-blank : AllBlank cs → BlankFrom (chip_of xs) q
    all-blank a k l h =
        let j = k - q.chunk in
        let n : k ≡ q.chunk + j = omega arith in
        let lt : j < length cs = omega (arith, count) in
        blank-told (bytes_at xs (start_of (chunk_count xs) q.block k))
        (state-at xs (start_of (chunk_count xs) q.block k) ∙ ap (λ (z : ℕ). get_or xs (start_of (chunk_count xs) q.block z) 0) n ∙ sym (state j lt) ∙ a j lt)

    pub blank-all : BlankFrom (chip_of xs) q → AllBlank cs
    blank-all b k h =
        let i = start_of (chunk_count xs) q.block (q.chunk + k) in
        state k h ∙ sym (state-at xs i) ∙ blank-state (bytes_at xs i) (b (q.chunk + k) (omega arith) (omega (arith, count)))
