-- The image of a blank chip that is off. Assumes nothing.
use Rattle.std.specs.Prelude.{◌≡◌, ℕ, zero, suc, ◌*◌, ◌<◌, false, List, [], ◌∷◌, ◌++◌, replicate}
use Rattle.flash.specs.declared.chunks.Chunk.TheVariants.{Blank}
use Rattle.flash.specs.Model.{State}

-- the bytes of a blank chunk: state 255, every other byte 0
unfoldable pub blank_chunk : List ℕ
blank_chunk = 255 ∷ replicate 2064 0

abbrev pub blank_chunks : ℕ → List ℕ
blank_chunks zero = []
blank_chunks (suc k) = blank_chunk ++ blank_chunks k

-- the head: the mark TFS, version 1, n blocks of p chunks each, off
abbrev pub head_of : ℕ → ℕ → List ℕ
head_of n p = 84 ∷ 70 ∷ 83 ∷ 1 ∷ 0 ∷ n ∷ p ∷ 0 ∷ []

abbrev pub blank_image : ℕ → ℕ → List ℕ
blank_image n p = head_of n p ++ blank_chunks (n * p)

-- the chip of n blocks of p blank chunks each, off
pub record BlankChip (n p : ℕ) (s : State) : Type 0 where
  pub blocks : s.n ≡ n
  pub chunks : s.p ≡ p
  pub off : s.on ≡ false
  pub cells : (b c : ℕ) → b < n → c < p → s.cells b c ≡ Blank
