-- Bytes laid over the front of zeros. Assumes nothing.
use Rattle.std.proofs.Common.{◌≡◌, ℕ, ◌-◌, ◌≤◌, min, List, ◌++◌, length, take, drop, replicate, ap, ◌∙◌, arith}
use Rattle.std.proofs.lemmas.List.{drop-replicate, take_all}
use Rattle.rules.specs.Calls.{padded}

-- all of the bytes, and the zeros that they leave
laid : (w k n m : ℕ) (bs front : List ℕ) → length bs ≤ n → m ≡ length bs → front ≡ take n bs → w - length bs ≡ k → front ++ drop m (replicate w 0) ≡ bs ++ replicate k 0
laid w k n m bs front l e f d =
    ap (λ (xs : List ℕ). xs ++ drop m (replicate w 0)) (f ∙ take_all n bs l)
    ∙ ap (λ (zs : List ℕ). bs ++ zs) (drop-replicate m w 0 ∙ ap (λ (i : ℕ). replicate i 0) (let q : w - m ≡ k = omega arith in q))

pub padded_is : (w n : ℕ) (bs front : List ℕ) → length bs ≤ w → n ≡ min (length bs) w → front ≡ take n bs → front ++ drop n (replicate w 0) ≡ padded w bs
padded_is w n bs front l e f = laid w (w - length bs) n n bs front (omega arith) (omega arith) f (omega arith)
