-- Rows and places: row k of a table of blocks of p chunks is chunk k % p of block k / p. Assumes nothing.
use Rattle.std.proofs.Common.{◌≡◌, ℕ, zero, suc, ◌+◌, ◌*◌, ◌/◌, ◌%◌, ◌<◌, mod-lt, div-lt_iff_lt-mul, div-add-mod', arith}

some-chunk : (n p k : ℕ) → k < n * p → 0 < p
some-chunk n zero k h = absurd (let e : n * 0 ≡ 0 = omega arith in omega arith)
some-chunk n (suc p) k h = omega arith

pub row_block : (n p k : ℕ) → k < n * p → k / p < n
row_block n p k h = (div-lt_iff_lt-mul {k = p} {x = k} {y = n} (some-chunk n p k h)).1 h

pub row-chunk : (n p k : ℕ) → k < n * p → k % p < p
row-chunk n p k h = mod-lt k (some-chunk n p k h)

pub row_is : (p k : ℕ) → (k / p) * p + k % p ≡ k
row_is p k = div-add-mod' k p
