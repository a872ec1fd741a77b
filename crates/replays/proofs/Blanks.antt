-- Rows that are all blank are a blank chip. Assumes nothing.
use Rattle.std.proofs.Common.{◌≡◌, ℕ, zero, suc, ◌+◌, ◌*◌, false, List, replicate, slice_index_or, refl, sym, subst}
use Rattle.flash.specs.declared.chunks.Chunk.{Chunk}
use Rattle.flash.specs.declared.chunks.Chunk.TheVariants.{Blank}
use Rattle.flash.specs.declared.chunks.Sizes.{Sizes}
use Rattle.flash.specs.Model.{State}
use Rattle.image.specs.Blanks.{BlankChip}
use Rattle.replays.specs.Devices.{row_state}

at_blank : (k i : ℕ) → slice_index_or (replicate k Blank) i Blank ≡ Blank
at_blank zero i = refl
at_blank (suc k) zero = refl
at_blank (suc k) (suc i) = at_blank k i

pub blank_made : (s : State) (rows : List Chunk) (z : Sizes) (k : ℕ) → s ≡ row_state rows z false → rows ≡ replicate k Blank → BlankChip z.blocks z.chunks s
blank_made s rows z k e r =
    let P : State → Type 0 = λ t. BlankChip z.blocks z.chunks t in
    let Q : List Chunk → Type 0 = λ xs. BlankChip z.blocks z.chunks (row_state xs z false) in
    subst P (sym e) (subst Q (sym r) (record { blocks = refl; chunks = refl; off = refl; cells = λ b c l m. at_blank k (b * z.chunks + c) }))
