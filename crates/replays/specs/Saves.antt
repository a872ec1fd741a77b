-- The image of a chip's meaning. Assumes nothing.
use Rattle.std.specs.Prelude.{◌≡◌, ℕ, zero, suc, ◌<◌, ◌≤◌, Bool, cond, ◌⊎◌, List, [], ◌∷◌, ◌++◌, replicate, Some, None, Option, OnOk, vec_items, Vec, Result}
use Rattle.std.specs.declared.alloc.Global.{Global}
use Rattle.flash.specs.declared.chunks.Chunk.{Chunk}
use Rattle.flash.specs.declared.chunks.Chunk.TheVariants.{Blank, Damaged, Holds}
use Rattle.flash.specs.declared.chunks.Tag.{Tag}
use Rattle.flash.specs.Model.{State}
use Rattle.image.specs.Codes.{four_bytes, code_of}

-- where memory sufficed, these bytes were added at the end
abbrev pub Grows : {E : Type 0} → Vec ℕ Global → List ℕ → Result (Unit {0}) E → Vec ℕ Global → Type 0
Grows v bs r w = OnOk r (vec_items w ≡ vec_items v ++ bs)

abbrev pub tag_bytes : Tag → List ℕ
tag_bytes t = four_bytes t.first ++ (four_bytes t.second ++ (four_bytes t.third ++ four_bytes t.serial))

unfoldable pub zeros : List ℕ
zeros = replicate 2064 0

-- a chunk in this state, all of whose other bytes are 0
abbrev pub unrecorded : ℕ → List ℕ
unrecorded state = state ∷ zeros

abbrev pub chunk_image : Chunk → List ℕ
chunk_image Blank = unrecorded 255
chunk_image Damaged = unrecorded 0
chunk_image (Holds r) = code_of r

-- the first c chunks of block b, and the first b blocks
abbrev pub block_image : State → ℕ → ℕ → List ℕ
block_image s b zero = []
block_image s b (suc c) = block_image s b c ++ chunk_image (s.cells b c)

abbrev pub blocks_image : State → ℕ → List ℕ
blocks_image s zero = []
blocks_image s (suc b) = blocks_image s b ++ block_image s b s.p

-- the mark TFS, version 1, N, P and the power, and all chunks
abbrev pub chip_image : State → Bool → List ℕ
chip_image s on = (84 ∷ 70 ∷ 83 ∷ 1 ∷ 0 ∷ s.n ∷ s.p ∷ cond on 1 0 ∷ []) ++ blocks_image s s.n

-- the image, if N and P fit a byte each
abbrev pub Imaged : State → Bool → Option (Vec ℕ Global) → Type 0
Imaged s on None = (255 < s.n) ⊎ (255 < s.p)
Imaged s on (Some v) = (s.n ≤ 255) × (s.p ≤ 255) × (vec_items v ≡ chip_image s on)
