-- What the hiders of an object tell. Only private functions cite this. Assumes nothing.
use Rattle.std.specs.Prelude.{◌≡◌, true, List, nat_lt, slice_index}
use Rattle.flash.specs.declared.chunks.Record.{Record}
use Rattle.rules.specs.Records.{kind, object, is_data}
use Rattle.rules.specs.Reading.{hidden}
use Rattle.reading.specs.declared.hiders.Hiders.{Hiders}

-- a data record of their object is hidden exactly if its serial is below the one at its number
abbrev pub Tells : List Record → Hiders → Type 0
Tells rs h = (d : Record) → object d ≡ h.object → is_data (kind d) ≡ true → hidden rs d ≡ nat_lt d.tag.serial (slice_index h.serials d.tag.first)
