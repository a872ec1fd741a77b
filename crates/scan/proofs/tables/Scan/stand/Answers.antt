use Rattle.std.proofs.Common.{◌<◌, ◌≤◌, [], length, map, sym, ◌∙◌, arith}
use Rattle.std.proofs.lemmas.List.{take_all, take_more, take_more_set, get_or-map, length-map}
use Rattle.flash.specs.Model.{blocks_of}
use Rattle.flash.proofs.Views.{blocks-count}
use Rattle.rules.specs.Mounting.{mounted_block}
use Rattle.rules.specs.declared.standings.Standing.TheVariants.{Blank}
use Rattle.scan.proofs.Standings.{block_inside, stands_so}
use Rattle.scan.proofs.tables.Scan.stand.Goals as goal

pub slice_bounds-all_blank-end : goal.slice_bounds-all_blank-end
slice_bounds-all_blank-end g c =
    let e = c.requires in
    rw c.rows_of.ensures (block_inside c.args.self.now.table c.loop-block.block (omega arith))

pub loop-block-preserved : goal.loop-block-preserved
loop-block-preserved g c =
    let s = g.C.Chip.model c.args.self.now.chip.now in
    let t = c.args.self.now.table in
    let i = c.loop-block.block in
    let n = t.sizes.blocks in
    let l : i < length (blocks_of s) = omega (arith, blocks-count s) in
    let h : i < length (map mounted_block (blocks_of s)) = omega (arith, length-map (blocks_of s) mounted_block) in
    let v = c.move_on.ensures ∙ stands_so t i (omega arith) c.all_blank-blank.result (rw c.rows_of.ensures at c.all_blank-blank.ensures) in
    cc (take_more_set c.loop-block.standings i c.move_on.new.standing (omega arith), take_more (map mounted_block (blocks_of s)) i Blank h, get_or-map mounted_block (blocks_of s) i [] Blank l)

pub returns : goal.returns
returns g c =
    let s = g.C.Chip.model c.args.self.now.chip.now in
    let i = c.loop-block.block in
    let n = c.args.self.now.table.sizes.blocks in
    let h : length (map mounted_block (blocks_of s)) ≤ i = omega (arith, blocks-count s, length-map (blocks_of s) mounted_block) in
    sym (take_all i c.loop-block.standings (omega arith)) ∙ c.loop-block.invariant ∙ take_all i (map mounted_block (blocks_of s)) h
