-- The length and the size of a file, by the tags alone. Assumes nothing.
use Rattle.std.specs.Prelude.{ℕ, ◌+◌, ◌-◌, ◌*◌, max, cond, List, Some, None, Option, ◌==◌}
use Rattle.flash.specs.declared.chunks.Record.{Record}
use Rattle.rules.specs.Reading.{header, highest_chunk, chunk}

-- the length of a present file: the larger of its header's length and its highest chunk number
abbrev pub length_by : Option Record → ℕ → Option ℕ
length_by None top = None
length_by (Some h) top = Some (max h.tag.third top)

abbrev pub length_of : List Record → ℕ → Option ℕ
length_of rs o = length_by (header rs o) (highest_chunk rs o)

-- how many bytes the last chunk has: its third number, or 2,048 where it is missing
abbrev pub last_count : Option Record → ℕ
last_count None = 2048
last_count (Some d) = d.tag.third

-- the size in bytes of a present file: 0 at length 0, else 2,048 for each chunk but the last, and what the last has
abbrev pub size_at : ℕ → ℕ → ℕ
size_at long last = cond (long == 0) 0 ((long - 1) * 2048 + last)

abbrev pub size_by : (ℕ → Option Record) → Option ℕ → Option ℕ
size_by part None = None
size_by part (Some long) = Some (size_at long (last_count (part long)))

abbrev pub size_of : List Record → ℕ → Option ℕ
size_of rs o = size_by (chunk rs o) (length_of rs o)
