-- No file open. Assumes nothing.
use Rattle.std.proofs.Common.{◌≡◌, ℕ, zero, suc, ◌-◌, false, get_or, replicate, refl}
use Rattle.std.proofs.lemmas.Bool.{and_right}
use Rattle.rules.specs.Lists.{within}
use Rattle.store.specs.Stores.{held_at}

all-false : (n k : ℕ) → get_or (replicate n false) k false ≡ false
all-false zero k = refl
all-false (suc n) zero = refl
all-false (suc n) (suc k) = all-false n k

pub none_are : (k : ℕ) → held_at (replicate 255 false) k ≡ false
none_are k = and_right (within 257 511 k) _ (all-false 255 (k - 257))
