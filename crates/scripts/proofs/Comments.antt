-- What stands before the first element that passes a test, by its place. Assumes nothing.
use Rattle.std.proofs.Common.{◌≡◌, ℕ, ◌≤◌, Bool, cond, true, false, List, length, take, Some, None, nat_lt, ap, arith}
use Rattle.std.proofs.lemmas.Grind.{common_steps}
use Rattle.std.specs.List.{position, position_or_len, before_first}

picked : (b : Bool) (k i : ℕ) → Some i ≡ cond b (Some k) None → i ≡ k
picked true k i e = cc
picked false k i e = cc

pub taken_before : (p : ℕ → Bool) (xs : List ℕ) (i : ℕ) → Some i ≡ position p xs → take i xs ≡ before_first p xs
taken_before p xs i e = ap (λ (n : ℕ). take n xs) (picked (nat_lt (position_or_len p xs) (length xs)) (position_or_len p xs) i e)

unpicked : (k n : ℕ) → None ≡ cond (nat_lt k n) (Some k) None → n ≤ k
unpicked k n e = grind arith

pub all_before : (p : ℕ → Bool) (xs : List ℕ) → None ≡ position p xs → xs ≡ before_first p xs
all_before p xs e = let short = unpicked (position_or_len p xs) (length xs) e in grind (arith, common_steps)
