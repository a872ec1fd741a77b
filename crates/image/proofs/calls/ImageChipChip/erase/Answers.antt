use Rattle.std.proofs.Common.{◌≡◌, vec_items, subst, rules, sym, ◌≤◌, ℕ, length}
use Rattle.image.specs.Format.{start_of}
use Rattle.image.proofs.States.{counted, block_room}
use Rattle.image.proofs.Changes.{erased, cleared_more}
use Rattle.image.proofs.calls.ImageChipChip.erase.Goals as goal

pub loop-chunk-init : goal.loop-chunk-init
loop-chunk-init c =
    let xs = vec_items c.args.self.now.bytes in
    let b = c.args.block in
    let h = c.head-head in
    let t = counted xs b h.result.blocks h.result.chunks h.ensures.blocks h.ensures.chunks (search rules) in
    let P : ℕ → Type 0 = λ p. start_of p b p ≤ length xs in
    record { room = subst P (sym t.chunks) (block_room xs b t.well t.within); cleared = search rules }

pub returns : goal.returns
returns c =
    let xs = vec_items c.args.self.now.bytes in
    let h = c.head-head in
    let n : c.loop-chunk.chunk ≡ h.result.chunks = search rules in
    erased xs (vec_items c.loop-chunk.self.bytes) c.args.block c.loop-chunk.chunk h.result h.ensures (search rules) (search rules) n c.loop-chunk.invariant.cleared

pub loop-chunk-preserved : goal.loop-chunk-preserved
loop-chunk-preserved c = cleared_more _ _ _ _ _ _ _ c.loop-chunk.invariant c.start_of.ensures (search rules) c.mark_blank.ensures
