-- The whole meaning of a chip: sizes, power and what each chunk is; and the same as a list of blocks. Assumes nothing.
use Rattle.std.specs.Prelude.{ℕ, zero, suc, ◌+◌, Bool, true, List, [], ◌∷◌}
use Rattle.flash.specs.declared.chunks.Chunk.{Chunk}

-- n blocks of p chunks; cells b c is chunk c of block b
pub record State : Type 0 where
  pub n : ℕ
  pub p : ℕ
  pub on : Bool
  pub cells : ℕ → ℕ → Chunk

-- switched on, with its contents kept
abbrev pub started : State → State
started s = record { n = s.n; p = s.p; on = true; cells = s.cells }

-- f i, f (i + 1) .. of k places
unfoldable pub tab : {A : Type 0} → (ℕ → A) → ℕ → ℕ → List A
tab f i zero = []
tab f i (suc k) = f i ∷ tab f (i + 1) k

-- the same meaning with the contents as a list of blocks, which ghost data can hold and the laws go over
pub record View : Type 0 where
  pub n : ℕ
  pub p : ℕ
  pub on : Bool
  pub blocks : List (List Chunk)

unfoldable pub blocks_of : State → List (List Chunk)
blocks_of s = tab (λ b. tab (λ c. s.cells b c) 0 s.p) 0 s.n

abbrev pub view_of : State → View
view_of s = record { n = s.n; p = s.p; on = s.on; blocks = blocks_of s }
