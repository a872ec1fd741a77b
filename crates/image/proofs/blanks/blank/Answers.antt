use Rattle.std.proofs.Common.{◌≡◌, ℕ, List, vec_items, sym, subst, rules}
use Rattle.image.specs.Blanks.{blank_image, BlankChip}
use Rattle.image.specs.Format.{misfit, image_of}
use Rattle.image.proofs.Fresh.{blank-fits, blank-chip}
use Rattle.image.proofs.blanks.blank.Goals as goal

pub returns-clause-chip : goal.returns-clause-chip
returns-clause-chip c =
    let n = c.args.blocks in
    let p = c.args.chunks in
    let e : vec_items c.loop.bytes ≡ blank_image n p = search rules in
    let P : List ℕ → Type 0 = λ xs. (misfit xs ≡ 0) × BlankChip n p (image_of xs) in
    subst P (sym e) (blank-fits n p, blank-chip n p)
