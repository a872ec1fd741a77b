use Rattle.std.proofs.Common.{rules}
use Rattle.rules.specs.Reading.{head_of}
use Rattle.reading.proofs.Readings.{kept-place}
use Rattle.reading.proofs.reading.header.Goals as goal

pub returns-clause-place : goal.returns-clause-place
returns-clause-place c = kept-place c.args.looks.now c.newest.result c.filter.result _ c.filter.ensures (c.newest.ensures.place (head_of c.args.object) (λ t r f k. search rules))
