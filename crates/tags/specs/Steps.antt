-- What one step of a search through the looks computes. Only private functions cite these. Assumes nothing.
use Rattle.std.specs.Prelude.{ℕ, cond, Option, nat_lt}
use Rattle.std.specs.Option.{option_map}
use Rattle.flash.specs.declared.chunks.Look.{Look}
use Rattle.flash.specs.Chunks.{tag_in}
use Rattle.tags.specs.declared.finds.Found.{Found}

-- the record that a look at place k tells of
abbrev pub found_in : ℕ → Look → Option Found
found_in k x = option_map (λ t. record { place = k; tag = t }) (tag_in x)

-- of two that were found one after the other, the later one if it is newer
abbrev pub newer_of : Found → Found → Found
newer_of f later = cond (nat_lt f.tag.serial later.tag.serial) later f
