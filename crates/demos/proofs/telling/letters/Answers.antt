use Rattle.std.proofs.Common.{rules}
use Rattle.std.proofs.lemmas.Iterator.{YieldsList-from_slice, YieldsList-from_map}
use Rattle.std.proofs.lemmas.Iterator.Adapters.{items_from_extend}
use Rattle.lines.specs.Bytes.{letter_of}
use Rattle.lines.proofs.Letters.{spelled}
use Rattle.demos.proofs.telling.letters.Goals as goal

pub returns : goal.returns
returns c = let h = items_from_extend c.extend.result c.extend.ensures.ran (YieldsList-from_map _ letter_of (YieldsList-from_slice c.args.bytes.now cc) (cc) (λ x r q k. search rules)) in search (rules, spelled)
