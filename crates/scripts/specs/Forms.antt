-- The forms of lines: the first word of each, and what its operands are. Assumes nothing.
use Rattle.std.specs.Prelude.{◌≡◌, ℕ, ◌+◌, Bool, true, false, ◌&&◌, List, [], ◌∷◌, map, length, Some, None, Option, Ok, Err, codes, Result, ◌==◌, slice_index_or}
use Rattle.std.specs.List.{find, list_any}
use Rattle.std.specs.Str.{bytes_eq}
use denote.Ref.{Bor}
use Rattle.scripts.specs.declared.lines.Life.TheVariants.{Attach, Release, Format, Mount, Collect}
use Rattle.scripts.specs.declared.forms.SetupForm.TheVariants.{Bench, BenchPlan, Plan, Image, ChunkState, ChunkRecord, Dump, Save}
use Rattle.scripts.specs.declared.forms.ChipForm.TheVariants.{Sizes, Look, Fetch, Program, Erase, Restart}
use Rattle.scripts.specs.declared.forms.ChangeForm.TheVariants.{Create, Rename, Delete, Open, Close, Put, Cut}
use Rattle.scripts.specs.declared.forms.AskForm.TheVariants.{Find, Size, List as ListRows, Read}
use Rattle.scripts.specs.declared.forms.Form.{Form}
use Rattle.scripts.specs.declared.forms.Form.TheVariants.{Setup, Chip, Life, Change, Ask}
use Rattle.scripts.specs.declared.forms.TheConstants.{FORMS}
use Rattle.scripts.specs.declared.misreads.Misread.{Misread}
use Rattle.scripts.specs.declared.misreads.Misread.TheVariants.{Memory, Unknown, Count, Number, Long, Data, State}

abbrev pub form_text : Form → List ℕ
form_text (Setup Bench) = codes "bench"
form_text (Setup BenchPlan) = codes "bench"
form_text (Setup Plan) = codes "plan"
form_text (Setup Image) = codes "image"
form_text (Setup ChunkState) = codes "chunk"
form_text (Setup ChunkRecord) = codes "chunk"
form_text (Setup Dump) = codes "dump"
form_text (Setup Save) = codes "save"
form_text (Chip Sizes) = codes "chip.sizes"
form_text (Chip Look) = codes "chip.look"
form_text (Chip Fetch) = codes "chip.fetch"
form_text (Chip Program) = codes "chip.program"
form_text (Chip Erase) = codes "chip.erase"
form_text (Chip Restart) = codes "chip.restart"
form_text (Life Attach) = codes "attach"
form_text (Life Release) = codes "release"
form_text (Life Format) = codes "format"
form_text (Life Mount) = codes "mount"
form_text (Life Collect) = codes "collect"
form_text (Change Create) = codes "create"
form_text (Change Rename) = codes "rename"
form_text (Change Delete) = codes "delete"
form_text (Change Open) = codes "open"
form_text (Change Close) = codes "close"
form_text (Change Put) = codes "put"
form_text (Change Cut) = codes "cut"
form_text (Ask Find) = codes "find"
form_text (Ask Size) = codes "size"
form_text (Ask ListRows) = codes "list"
form_text (Ask Read) = codes "read"

-- what an operand is: a number of 32 bits or of 64, data, blank or damaged, or a file's name
pub data Kind : Type 0 where
  number : Kind
  long : Kind
  bytes : Kind
  state : Kind
  file : Kind

-- block, chunk and the four numbers, and the data
abbrev pub record_kinds : List Kind
record_kinds = number ∷ number ∷ number ∷ number ∷ number ∷ number ∷ bytes ∷ []

abbrev pub kinds : Form → List Kind
kinds (Setup Bench) = number ∷ number ∷ []
kinds (Setup BenchPlan) = number ∷ number ∷ long ∷ long ∷ long ∷ []
kinds (Setup Plan) = long ∷ long ∷ long ∷ []
kinds (Setup Image) = file ∷ []
kinds (Setup ChunkState) = number ∷ number ∷ state ∷ []
kinds (Setup ChunkRecord) = record_kinds
kinds (Setup Dump) = []
kinds (Setup Save) = file ∷ []
kinds (Chip Sizes) = []
kinds (Chip Look) = number ∷ number ∷ []
kinds (Chip Fetch) = number ∷ number ∷ []
kinds (Chip Program) = record_kinds
kinds (Chip Erase) = number ∷ []
kinds (Chip Restart) = []
kinds (Life l) = []
kinds (Change Create) = number ∷ bytes ∷ []
kinds (Change Rename) = number ∷ bytes ∷ []
kinds (Change Delete) = number ∷ []
kinds (Change Open) = number ∷ []
kinds (Change Close) = number ∷ []
kinds (Change Put) = number ∷ number ∷ bytes ∷ []
kinds (Change Cut) = number ∷ number ∷ []
kinds (Ask Find) = bytes ∷ []
kinds (Ask Size) = number ∷ []
kinds (Ask ListRows) = number ∷ []
kinds (Ask Read) = number ∷ long ∷ number ∷ []

abbrev pub texts_of : List (Bor (List ℕ)) → List (List ℕ)
texts_of ws = map (λ w. w.now) ws

-- word i, counted from 0
abbrev pub word_at : List (List ℕ) → ℕ → List ℕ
word_at ws i = slice_index_or ws i []

abbrev pub is_named : List (List ℕ) → Form → Bool
is_named ws f = bytes_eq (word_at ws 0) (form_text f)

-- the words begin with its first word, and as many follow as it has operands
abbrev pub is_form : List (List ℕ) → Form → Bool
is_form ws f = is_named ws f && (length ws == length (kinds f) + 1)

-- the form that the words have
unfoldable pub found : List (List ℕ) → Option Form
found ws = find (is_form ws) FORMS

-- whether any form has their first word
unfoldable pub begun : List (List ℕ) → Bool
begun ws = list_any (is_named ws) FORMS

-- the form of words; where they have none, another number of operands would do, or no form has this first word
abbrev pub FormBy : List (List ℕ) → Result Form Misread → Type 0
FormBy ws (Ok f) = found ws ≡ Some f
FormBy ws (Err Memory) = ⊥
FormBy ws (Err Unknown) = (found ws ≡ None) × (begun ws ≡ false)
FormBy ws (Err Count) = (found ws ≡ None) × (begun ws ≡ true)
FormBy ws (Err (Number i)) = ⊥
FormBy ws (Err (Long i)) = ⊥
FormBy ws (Err (Data i)) = ⊥
FormBy ws (Err (State i)) = ⊥
