-- The image of a blank chip. Assumes nothing.
use Rattle.std.proofs.Common.{◌≡◌, ℕ, zero, suc, ◌+◌, ◌-◌, ◌*◌, ◌<◌, eqb, List, ◌++◌, length, get_or, sym, refl, ap, ◌∙◌, arith}
use lib.Arith.{digits_lt}
use Rattle.std.proofs.lemmas.List.{append-nil, append_assoc, length-append, length-replicate, get_or_append_left, get_or-append_right, get_or-append-add}
use Rattle.std.proofs.lemmas.Bool.Decides.{nat_tests}
use Rattle.image.specs.Blanks.{blank_chunk, blank_chunks, head_of, blank_image, BlankChip}
use Rattle.image.specs.Format.{misfit, start_of, bytes_at, image_of}
use Rattle.image.proofs.Coded.{blank-told}
use Rattle.image.proofs.Spots.{state-at}
use Rattle.image.proofs.States.{at-image}

-- one chunk more
pub chunks_more : (k : ℕ) → blank_chunks k ++ blank_chunk ≡ blank_chunks (k + 1)
chunks_more zero = sym (append-nil blank_chunk)
chunks_more (suc k) =
    append_assoc blank_chunk (blank_chunks k) blank_chunk ∙ ap (λ (xs : List ℕ). blank_chunk ++ xs) (chunks_more k)
    ∙ ap blank_chunks (let e : suc (k + 1) ≡ suc k + 1 = omega arith in e)

length-blank : length blank_chunk ≡ 2065
unfolding blank_chunk
length-blank = ap suc (length-replicate {A = ℕ} 2064 0)

length-chunks : (k : ℕ) → length (blank_chunks k) ≡ k * 2065
length-chunks zero = refl
length-chunks (suc k) = length-append blank_chunk (blank_chunks k) ∙ (let a = length-blank in let b = length-chunks k in omega arith)

state-blank : get_or blank_chunk 0 0 ≡ 255
unfolding blank_chunk
state-blank = refl

state-chunks : (m k : ℕ) → k < m → get_or (blank_chunks m) (k * 2065) 0 ≡ 255
state-chunks zero k h = absurd (omega arith)
state-chunks (suc m) zero h = get_or_append_left blank_chunk (blank_chunks m) 0 0 (let a = length-blank in omega arith) ∙ state-blank
state-chunks (suc m) (suc k) h =
    get_or-append_right blank_chunk (blank_chunks m) 2065 (suc k * 2065) 0 length-blank (omega arith)
    ∙ ap (λ (i : ℕ). get_or (blank_chunks m) i 0) (let e : suc k * 2065 - 2065 ≡ k * 2065 = omega arith in e) ∙ state-chunks m k (omega arith)

pub blank-fits : (n p : ℕ) → misfit (blank_image n p) ≡ 0
blank-fits n p = let l = length-chunks (n * p) in grind (arith, nat_tests)

pub blank-chip : (n p : ℕ) → BlankChip n p (image_of (blank_image n p))
blank-chip n p =
    let xs = blank_image n p in
    at-image (BlankChip n p) xs (ap (λ (k : ℕ). eqb k 0) (blank-fits n p))
    (record {
      blocks = refl;
      chunks = refl;
      off = refl;
      cells = λ b c hb hc. blank-told (bytes_at xs (start_of p b c))
          (state-at xs (start_of p b c) ∙ get_or-append-add (head_of n p) (blank_chunks (n * p)) ((b * p + c) * 2065) 0 ∙ state-chunks (n * p) (b * p + c) (digits_lt hb hc));
    })
