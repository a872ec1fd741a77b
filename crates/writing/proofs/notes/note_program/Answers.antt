use Rattle.std.proofs.Common.{◌<◌, arith}
use Rattle.std.proofs.lemmas.Bool.Decides.{nat_tests}
use lib.Arith.{digits_lt}
use Rattle.writing.proofs.notes.note_program.Goals as goal

pub index_mut-requires : goal.index_mut-requires
index_mut-requires c =
    let x = c.args.index.now in
    let b : c.args.at.block < x.sizes.blocks = grind (arith, nat_tests) in
    let k : c.args.at.chunk < x.sizes.chunks = grind (arith, nat_tests) in
    let l = digits_lt b k in omega (arith, x.within, x.places)
