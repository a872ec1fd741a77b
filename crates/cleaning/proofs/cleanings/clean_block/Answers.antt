use Rattle.cleaning.proofs.Emptying.{copies_take, block_there, counts_on}
use Rattle.cleaning.proofs.Playing.{done_on}
use Rattle.cleaning.proofs.cleanings.clean_block.Goals as goal

pub returns-clause-played : goal.returns-clause-played
returns-clause-played g c = λ cl t takes.
    let s = g.C.Chip.model c.args.chip.now in
    let x = c.args.index.now in
    let v = c.args.block in
    let d = c.in_ok-copies.ensures.played cl t (copies_take s x v takes) in
    (done_on d.0 (c.in_ok-erase.ensures d.0.tells (block_there s x v takes _ _ d.0)), counts_on _ v _ d.1)
