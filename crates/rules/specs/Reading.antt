-- The reading rule, over the list of the records that stand. Assumes nothing.
use Rattle.std.specs.Prelude.{ℕ, zero, suc, ◌+◌, ◌*◌, max, Bool, true, false, cond, not, ◌&&◌, ◌||◌, List, [], ◌∷◌, length, take, Some, None, Option, ◌==◌, nat_lt}
use Rattle.flash.specs.declared.chunks.Record.{Record}
use Rattle.rules.specs.declared.kinds.Kind.{Kind}
use Rattle.rules.specs.declared.kinds.Kind.TheVariants.{Data as data_k, Header as header_k, CutHeader as cut_k, Marker as marker_k, Other as other_k}
use Rattle.rules.specs.Lists.{any, keep, largest, is_there, same_bytes}
use Rattle.rules.specs.Records.{kind, is_data, is_header, is_cut, is_marker, object, same_object, newer}

-- of those that pass the test, the one with the largest serial
abbrev pub newer_of : Record → Option Record → Option Record
newer_of r None = Some r
newer_of r (Some s) = Some (cond (nat_lt r.tag.serial s.tag.serial) s r)

abbrev pub newer_if : Bool → Record → Option Record → Option Record
newer_if true r best = newer_of r best
newer_if false r best = best

abbrev pub newest : (Record → Bool) → List Record → Option Record
newest t [] = None
newest t (r ∷ rs) = newer_if (t r) r (newest t rs)

-- a header or marker of the object o
unfoldable pub head_of : ℕ → Record → Bool
head_of o r = object r == o && (is_header (kind r) || is_marker (kind r))

-- a data record of the object o with the chunk number j
unfoldable pub data_of : ℕ → ℕ → Record → Bool
data_of o j r = object r == o && (is_data (kind r) && r.tag.first == j)

-- an object is present when its newest header or marker is a header
abbrev pub header_only : Option Record → Option Record
header_only None = None
header_only (Some h) = cond (is_header (kind h)) (Some h) None

unfoldable pub header : List Record → ℕ → Option Record
header rs o = header_only (newest (head_of o) rs)

unfoldable pub present : List Record → ℕ → Bool
present rs o = is_there (header rs o)

-- h hides d: a marker every older data record of its object, a cut header those whose chunk number is above its length
unfoldable pub hides : Record → Record → Bool
hides h d = is_data (kind d) && (same_object h d && (newer h d && (is_marker (kind h) || (is_cut (kind h) && nat_lt h.tag.third d.tag.first))))

unfoldable pub hidden : List Record → Record → Bool
hidden rs d = any (λ h. hides h d) rs

-- chunk j is the newest data record of the object and number, if it is not hidden
abbrev pub unhidden : List Record → Option Record → Option Record
unhidden rs None = None
unhidden rs (Some d) = cond (hidden rs d) None (Some d)

unfoldable pub chunk : List Record → ℕ → ℕ → Option Record
chunk rs o j = unhidden rs (newest (data_of o j) rs)

-- the highest chunk number that is not missing, or 0
unfoldable pub number_there : List Record → ℕ → Record → ℕ
number_there rs o r = cond (object r == o && (is_data (kind r) && is_there (chunk rs o r.tag.first))) r.tag.first 0

unfoldable pub highest_chunk : List Record → ℕ → ℕ
highest_chunk rs o = largest (number_there rs o) rs

-- a file: its name, its length, and each chunk's bytes or none where it is missing
pub record File : Type 0 where
  pub name : List ℕ
  pub long : ℕ
  pub part : ℕ → Option (List ℕ)

-- the first data byte tells how many bytes after it are the name
abbrev pub name_in : List ℕ → List ℕ
name_in [] = []
name_in (k ∷ bs) = take k bs

-- as many bytes as the byte count
abbrev pub bytes_in : Option Record → Option (List ℕ)
bytes_in None = None
bytes_in (Some d) = Some (take d.tag.third d.bytes)

-- the length is the larger of the newest header's length and the highest chunk number that is not missing
abbrev pub file_of : Option Record → ℕ → (ℕ → Option (List ℕ)) → Option File
file_of None top part = None
file_of (Some h) top part = Some (record { name = name_in h.bytes; long = max h.tag.third top; part = part })

-- the files by the reading rule: for each object no file, or its file
abbrev pub Files : Type 0
Files = ℕ → Option File

unfoldable pub files : List Record → Files
files rs o = file_of (header rs o) (highest_chunk rs o) (λ j. bytes_in (chunk rs o j))

-- the size in bytes
abbrev pub last_count : Option (List ℕ) → ℕ
last_count None = 2048
last_count (Some bs) = length bs

abbrev pub size_at : (ℕ → Option (List ℕ)) → ℕ → ℕ
size_at part zero = 0
size_at part (suc k) = k * 2048 + last_count (part (suc k))

abbrev pub size : File → ℕ
size f = size_at f.part f.long

-- a file uses one chunk for its header and one for each of its chunks, 1 to 1,000, that is not missing
abbrev pub parts_up : (ℕ → Option (List ℕ)) → ℕ → ℕ
parts_up part zero = 0
parts_up part (suc k) = cond (is_there (part (suc k))) 1 0 + parts_up part k

unfoldable pub used_of : Option File → ℕ
used_of None = 0
used_of (Some f) = 1 + parts_up f.part 1000

-- all files together, of the objects 257 to 511
abbrev pub used_up : Files → ℕ → ℕ
used_up fs zero = 0
used_up fs (suc k) = used_of (fs (257 + k)) + used_up fs k

unfoldable pub used_by : Files → ℕ
used_by fs = used_up fs 255

-- some object number from 257 to 511 passes the test
abbrev pub any_up : (ℕ → Bool) → ℕ → Bool
any_up t zero = false
any_up t (suc k) = t (257 + k) || any_up t k

unfoldable pub any_object : (ℕ → Bool) → Bool
any_object t = any_up t 255

-- there is a file, and it has the name
abbrev pub named : List ℕ → Option File → Bool
named name None = false
named name (Some f) = same_bytes f.name name

-- a file of another object has the name
unfoldable pub name_taken : Files → ℕ → List ℕ → Bool
name_taken fs o name = any_object (λ k. not (k == o) && named name (fs k))

-- a newer header or marker of its object stands
unfoldable pub topped : List Record → Record → Bool
topped rs r = any (λ s. head_of (object r) s && newer s r) rs

-- a newer data record of its object and chunk number stands
unfoldable pub replaced : List Record → Record → Bool
replaced rs r = any (λ s. data_of (object r) r.tag.first s && newer s r) rs

-- a newer marker of its object stands
unfoldable pub outmarked : List Record → Record → Bool
outmarked rs r = any (λ s. is_marker (kind s) && (same_object s r && newer s r)) rs

-- an older record of its object stands
unfoldable pub has_older : List Record → Record → Bool
has_older rs r = any (λ s. same_object s r && newer r s) rs

-- a data record that it hides stands
unfoldable pub hides_some : List Record → Record → Bool
hides_some rs r = any (hides r) rs

-- a present file's newest header, or a chunk of a present file
abbrev pub in_file_by : List Record → Record → Kind → Bool
in_file_by rs r data_k = present rs (object r) && (not (hidden rs r) && not (replaced rs r))
in_file_by rs r header_k = not (topped rs r)
in_file_by rs r cut_k = not (topped rs r)
in_file_by rs r marker_k = false
in_file_by rs r other_k = false

unfoldable pub in_file : List Record → Record → Bool
in_file rs r = in_file_by rs r (kind r)

-- wanted: what is in a file; a cut header while a data record that it hides stands; the newest marker while an older record of its object stands
abbrev pub wanted_by : List Record → Record → Kind → Bool
wanted_by rs r data_k = in_file_by rs r data_k
wanted_by rs r header_k = in_file_by rs r header_k
wanted_by rs r cut_k = in_file_by rs r cut_k || hides_some rs r
wanted_by rs r marker_k = not (outmarked rs r) && has_older rs r
wanted_by rs r other_k = false

unfoldable pub wanted : List Record → Record → Bool
wanted rs r = wanted_by rs r (kind r)

-- each serial once, at its first place
abbrev pub once : List Record → List Record
once [] = []
once (r ∷ rs) = r ∷ keep (λ s. not (s.tag.serial == r.tag.serial)) (once rs)

-- the chunks that the files use, counted over the records
unfoldable pub used : List Record → ℕ
used rs = length (keep (in_file rs) (once rs))
