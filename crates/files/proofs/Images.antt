-- Bytes that are an image. Assumes nothing.
use Rattle.std.proofs.Common.{◌≡◌, ℕ, ◌<◌, List, Ok, ◌==◌, cond, arith}
use Rattle.std.proofs.lemmas.Grind.{common_steps}
use Rattle.flash.specs.Model.{State}
use Rattle.image.specs.Format.{misfit, chip_of, no_chip, image_of}
use Rattle.scan.specs.Formats.{Formatted}

by_fit : (m : ℕ) (s : State) → 0 < (cond (m == 0) s no_chip).n → m ≡ 0
by_fit m s h = grind arith

with_blocks : (ys : List ℕ) → 0 < (image_of ys).n → misfit ys ≡ 0
with_blocks ys h = by_fit (misfit ys) (chip_of ys) h

pub still_image : (xs ys : List ℕ) → Formatted (image_of xs) (Ok tt) (image_of ys) → misfit ys ≡ 0
still_image xs ys f = with_blocks ys (grind (arith, common_steps, f.0, f.1.n_same))
