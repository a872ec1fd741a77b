-- Which records a count over the looks takes. Only private functions cite these. Assumes nothing.
use Rattle.std.specs.Prelude.{Bool, not, ◌&&◌, ◌||◌, List, nat_eq}
use Rattle.flash.specs.declared.chunks.Record.{Record}
use Rattle.flash.specs.declared.chunks.Look.{Look}
use Rattle.rules.specs.Lists.{any}
use Rattle.rules.specs.Reading.{wanted}
use Rattle.tags.specs.Bare.{bare_of}
use Rattle.table.specs.Loads.{fresh, holds_one}

-- a look tells of a record that passes, and whose serial stands not among those seen before
abbrev pub first_of : (Record → Bool) → List Record → Look → Bool
first_of p seen x = holds_one (λ r. p r && fresh seen r) (bare_of x)

-- a wanted record whose serial stands neither before nor after its block
abbrev pub loads_by : List Record → List Record → List Record → Record → Bool
loads_by all before after r = wanted all r && not (any (λ s. nat_eq s.tag.serial r.tag.serial) before || any (λ s. nat_eq s.tag.serial r.tag.serial) after)
