use Rattle.std.proofs.Common.{◌≡◌, replicate, vec_items, rules}
use Rattle.flash.specs.declared.chunks.Chunk.TheVariants.{Blank}
use Rattle.replays.proofs.Blanks.{blank_made}
use Rattle.replays.proofs.devices.Device.bench.Goals as goal

pub returns : goal.returns
returns c =
    let same : vec_items c.in_ok-rows.rows ≡ replicate c.count.result Blank = search rules in
    (blank_made _ (vec_items c.in_ok-rows.rows) c.args.sizes c.count.result c.of_rows.ensures.0 same, c.of_rows.ensures.1)
