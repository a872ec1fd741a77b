-- What hides the chunks of an object, by chunk number: the largest serial of a record that hides there. Only private functions cite these. Assumes nothing.
use Rattle.std.specs.Prelude.{◌≡◌, ℕ, zero, suc, ◌<◌, max, cond, not, ◌&&◌, List, Some, None, Option, ◌==◌, nat_lt, slice_index, slice_set}
use Rattle.flash.specs.declared.chunks.Tag.{Tag}
use Rattle.flash.specs.declared.chunks.Record.{Record}
use Rattle.rules.specs.declared.kinds.Kind.{Kind}
use Rattle.rules.specs.declared.kinds.Kind.TheVariants.{Data as data_k, Header as header_k, CutHeader as cut_k, Marker as marker_k, Other as other_k}
use Rattle.rules.specs.Records.{kind_by, object, is_data}
use Rattle.rules.specs.Reading.{hidden}
use Rattle.tags.specs.Bare.{bare_tag}

-- a record hides above this chunk number: a marker above 0, a cut header above its length, any other nowhere
abbrev pub above_by : Kind → ℕ → Option ℕ
above_by data_k n = None
above_by header_k n = None
above_by cut_k n = Some n
above_by marker_k n = Some 0
above_by other_k n = None

-- a record hides chunks of the object o above this number
abbrev pub hides_above : ℕ → Tag → Option ℕ
hides_above o t = cond (object (bare_tag t) == o) (above_by (kind_by t.first) t.third) None

-- the serial of a record that hides above the number k, or 0
abbrev pub serial_at : Option ℕ → ℕ → ℕ → ℕ
serial_at None k s = 0
serial_at (Some n) k s = cond (n == k) s 0

abbrev pub hider_at : ℕ → ℕ → Tag → ℕ
hider_at o k t = serial_at (hides_above o t) k t.serial

-- number k of a list, raised to n where it is less
abbrev pub raised : List ℕ → ℕ → ℕ → List ℕ
raised xs k n = slice_set xs k (max (slice_index xs k) n)

-- each number k of the 1,001 is raised to f k where it was less
abbrev pub Noted : (ℕ → ℕ) → List ℕ → List ℕ → Type 0
Noted f old new = (k : ℕ) → k < 1001 → slice_index new k ≡ max (slice_index old k) (f k)

-- the largest of the first n numbers, or 0
abbrev pub most_of : List ℕ → ℕ → ℕ
most_of xs zero = 0
most_of xs (suc n) = max (most_of xs n) (slice_index xs n)

-- each of the 1,001 gives way to the largest of those before it
abbrev pub CarriedOn : List ℕ → List ℕ → Type 0
CarriedOn old new = (k : ℕ) → k < 1001 → slice_index new k ≡ most_of old k

-- the chunk number of a data record of the object that is not hidden, or 0
abbrev pub shown_number : List Record → ℕ → Record → ℕ
shown_number rs o r = cond (object r == o && (is_data (kind_by r.tag.first) && not (hidden rs r))) r.tag.first 0

-- the chunk number of a data record of the object o whose serial is not below that of what hides there
abbrev pub shown_by : List ℕ → ℕ → Tag → Option ℕ
shown_by hiders o t = cond (object (bare_tag t) == o && (is_data (kind_by t.first) && not (nat_lt t.serial (slice_index hiders t.first)))) (Some t.first) None
