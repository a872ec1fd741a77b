-- What a search through the looks finds: a record with its place. Assumes nothing.
use Rattle.std.specs.Prelude.{◌≡◌, ℕ, ◌<◌, List, length, Some, None, Option, ◌≢◌, slice_index_or}
use Rattle.flash.specs.declared.chunks.Record.{Record}
use Rattle.flash.specs.declared.chunks.Look.{Look}
use Rattle.flash.specs.declared.chunks.Look.TheVariants.{Blank, Record as record_l}
use Rattle.tags.specs.declared.finds.Found.{Found}
use Rattle.tags.specs.Bare.{bare_tag}

-- which record was found
abbrev pub record_of : Option Found → Option Record
record_of None = None
record_of (Some f) = Some (bare_tag f.tag)

-- its place is the first at which a look tells of it
pub record FoundAt (looks : List Look) (f : Found) : Type 0 where
  pub within : f.place < length looks
  pub here : slice_index_or looks f.place Blank ≡ record_l f.tag
  pub first : (k : ℕ) → k < f.place → slice_index_or looks k Blank ≢ record_l f.tag

abbrev pub InPlace : List Look → Option Found → Type 0
InPlace looks None = Unit {0}
InPlace looks (Some f) = FoundAt looks f
