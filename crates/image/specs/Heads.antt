-- What the head of an image tells. Assumes nothing.
use Rattle.std.specs.Prelude.{◌≡◌, ℕ, List}
use Rattle.flash.specs.Model.{State}
use Rattle.image.specs.declared.heads.Head.{Head}
use Rattle.image.specs.Format.{misfit, chip_of}

-- the sizes and the power of a chip
pub record HeadOf (s : State) (h : Head) : Type 0 where
  pub blocks : h.blocks ≡ s.n
  pub chunks : h.chunks ≡ s.p
  pub power : h.on ≡ s.on

-- the bytes are an image, and this is its head
abbrev pub IsHead : List ℕ → Head → Type 0
IsHead xs h = (misfit xs ≡ 0) × HeadOf (chip_of xs) h
