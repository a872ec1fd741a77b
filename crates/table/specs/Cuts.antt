-- A block cut out of a table. Only private functions cite this. Assumes nothing.
use Rattle.std.specs.Prelude.{◌≡◌, ℕ, ◌+◌, ◌*◌, ◌<◌, Bool, List, length, take, drop, slice_index_or, Some, None, Option}
use Rattle.flash.specs.declared.chunks.Look.{Look}
use Rattle.flash.specs.declared.chunks.Look.TheVariants.{Blank}
use Rattle.flash.specs.declared.chunks.Record.{Record}
use Rattle.tags.specs.Bare.{records}
use Rattle.table.specs.Steps.{first_of, loads_by}
use Rattle.table.specs.declared.loads.BlockOf.{BlockOf}

-- block b of p rows, with the rows before and after it
pub record CutOut (looks : List Look) (p b : ℕ) (s : BlockOf) : Type 0 where
  pub all : s.all.now ≡ looks
  pub before : s.before.now ≡ take (b * p) looks
  pub within : s.within.now ≡ take p (drop (b * p) looks)
  pub after : s.after.now ≡ drop (b * p + p) looks

-- there is none where the table is too short
abbrev pub CutFrom : List Look → ℕ → ℕ → Option BlockOf → Type 0
CutFrom looks p b None = length looks < b * p + p
CutFrom looks p b (Some s) = CutOut looks p b s

-- a row of the block makes its load if its record does, and no earlier row tells of the serial
abbrev pub loads_in : BlockOf → Record → Bool
loads_in s r = loads_by (records s.all.now) (records s.before.now) (records s.after.now) r

abbrev pub LoadsRow : BlockOf → ℕ → Bool → Type 0
LoadsRow s c b = c < length s.within.now → b ≡ first_of (loads_in s) (records (take c s.within.now)) (slice_index_or s.within.now c Blank)
