use Rattle.std.proofs.Common.{length, take, vec_items, ap, ◌∙◌}
use Rattle.std.proofs.Math.Nat.{le_refl}
use Rattle.std.proofs.lemmas.Slice.{between_to_end}
use Rattle.image.specs.Places.{to_end}
use Rattle.image.proofs.States.{is_chunk}
use Rattle.image.proofs.images.ImageChip.chunk.Goals as goal

pub returns : goal.returns
returns c =
    let zs = c.deref.result.now in
    let e = rw c.unwrap.ensures at c.first_chunk.ensures.cases in
    let xs = vec_items c.args.self.now.bytes in
    is_chunk xs _ zs c.args.at (to_end xs c.args.at c.in_ok-start.start) c.in_ok-start.ensures c.deref.ensures.value
    (e.same ∙ ap (take 2065) (between_to_end zs c.in_ok-start.start (length zs) (le_refl (length zs))))
