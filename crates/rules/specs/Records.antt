-- Records: their kinds, the object that each belongs to, and the rules that each keeps. Assumes nothing.
use Rattle.std.specs.Prelude.{ℕ, ◌+◌, ◌-◌, Bool, true, false, cond, ◌&&◌, List, [], ◌∷◌, ◌==◌, nat_le, nat_lt}
use Rattle.flash.specs.declared.chunks.Record.{Record}
use Rattle.flash.specs.declared.chunks.Chunk.{Chunk}
use Rattle.flash.specs.declared.chunks.Chunk.TheVariants.{Blank, Damaged, Holds}
use Rattle.rules.specs.declared.kinds.Kind.{Kind}
use Rattle.rules.specs.declared.kinds.Kind.TheVariants.{Data as data_k, Header as header_k, CutHeader as cut_k, Marker as marker_k, Other as other_k}
use Rattle.rules.specs.Lists.{within}

abbrev pub is_blank : Chunk → Bool
is_blank Blank = true
is_blank Damaged = false
is_blank (Holds r) = false

-- what a record is, by its first number: a data record's is its chunk number
unfoldable pub kind_by : ℕ → Kind
kind_by f = cond (nat_le 1 f && nat_le f 1000) data_k (cond (f == 0x80000001) header_k (cond (f == 0xC0000001) cut_k (cond (f == 0xC0000004) marker_k other_k)))

unfoldable pub kind : Record → Kind
kind r = kind_by r.tag.first

abbrev pub is_data : Kind → Bool
is_data data_k = true
is_data header_k = false
is_data cut_k = false
is_data marker_k = false
is_data other_k = false

-- a header of either kind
abbrev pub is_header : Kind → Bool
is_header data_k = false
is_header header_k = true
is_header cut_k = true
is_header marker_k = false
is_header other_k = false

abbrev pub is_cut : Kind → Bool
is_cut data_k = false
is_cut header_k = false
is_cut cut_k = true
is_cut marker_k = false
is_cut other_k = false

abbrev pub is_marker : Kind → Bool
is_marker data_k = false
is_marker header_k = false
is_marker cut_k = false
is_marker marker_k = true
is_marker other_k = false

-- the object that a record belongs to: headers and markers have it above 0x10000000
abbrev pub object_by : Kind → ℕ → ℕ
object_by data_k s = s
object_by header_k s = s - 0x10000000
object_by cut_k s = s - 0x10000000
object_by marker_k s = s - 0x10000000
object_by other_k s = 0

unfoldable pub object : Record → ℕ
object r = object_by (kind r) r.tag.second

abbrev pub same_object : Record → Record → Bool
same_object a b = object a == object b

-- newer means a larger serial
abbrev pub newer : Record → Record → Bool
newer a b = nat_lt b.tag.serial a.tag.serial

-- the length of a header's name is its first data byte
abbrev pub first_byte : List ℕ → ℕ
first_byte [] = 0
first_byte (b ∷ bs) = b

-- the second and third number and the name's length are in range; the first is by the kind
abbrev pub rules_by : Record → Kind → Bool
rules_by r data_k = within 1 1000 r.tag.first && (within 257 511 r.tag.second && within 1 2048 r.tag.third)
rules_by r header_k = within (0x10000000 + 257) (0x10000000 + 511) r.tag.second && (nat_le r.tag.third 1000 && within 1 40 (first_byte r.bytes))
rules_by r cut_k = within (0x10000000 + 257) (0x10000000 + 511) r.tag.second && (nat_le r.tag.third 1000 && within 1 40 (first_byte r.bytes))
rules_by r marker_k = within (0x10000000 + 257) (0x10000000 + 511) r.tag.second && r.tag.third == 0
rules_by r other_k = false

-- a record keeps the rules: its serial is in range, and its other numbers and its name's length are
unfoldable pub keeps_rules : Record → Bool
keeps_rules r = within 1 4294967295 r.tag.serial && rules_by r (kind r)
