-- Which line is which call, and what is wrong where it is none. Assumes nothing.
use Rattle.std.specs.Prelude.{◌≡◌, ℕ, ◌+◌, true, false, ◌≢◌, ◌⊎◌, List, [], ◌∷◌, length, Some, None, Option, Ok, Err, Result}
use Rattle.flash.specs.declared.chunks.Place.{Place}
use Rattle.flash.specs.declared.chunks.Tag.{Tag}
use Rattle.bench.specs.declared.plans.Plan.{Plan}
use Rattle.scripts.specs.declared.bytes.Data.{Data as Bytes}
use Rattle.scripts.specs.declared.lines.Content.TheVariants.{Blank, Damaged, Holds}
use Rattle.scripts.specs.declared.lines.Setup.TheVariants as s
use Rattle.scripts.specs.declared.lines.ChipCall.TheVariants as k
use Rattle.scripts.specs.declared.lines.Change.TheVariants as c
use Rattle.scripts.specs.declared.lines.Ask.TheVariants as a
use Rattle.scripts.specs.declared.lines.Line.{Line}
use Rattle.scripts.specs.declared.lines.Line.TheVariants.{Setup, Chip, Life, Change, Ask}
use Rattle.scripts.specs.declared.lines.Recorded.{Recorded}
use Rattle.scripts.specs.declared.forms.SetupForm.TheVariants as sf
use Rattle.scripts.specs.declared.forms.ChipForm.TheVariants as kf
use Rattle.scripts.specs.declared.forms.ChangeForm.TheVariants as cf
use Rattle.scripts.specs.declared.forms.AskForm.TheVariants as af
use Rattle.scripts.specs.declared.forms.Form.{Form}
use Rattle.scripts.specs.declared.forms.Form.TheVariants as f
use Rattle.scripts.specs.declared.misreads.Misread.{Misread}
use Rattle.scripts.specs.declared.misreads.Misread.TheVariants.{Memory, Unknown, Count, Number, Long, Data, State}
use Rattle.scripts.specs.Numbers.{number_of, long_of}
use Rattle.scripts.specs.Bytes.{data_of, bytes_in}
use Rattle.scripts.specs.Forms.{Kind, number, long, bytes, state, file, record_kinds, kinds, word_at, found, begun}
use Rattle.scripts.specs.Operands.{is_blank_word, is_damaged_word}

-- an operand is not what it should be
abbrev pub Wrong : Kind → List ℕ → ℕ → Misread → Type 0
Wrong number w i e = (number_of w ≡ None) × (e ≡ Number i)
Wrong long w i e = (long_of w ≡ None) × (e ≡ Long i)
Wrong bytes w i e = (data_of w ≡ None) × (e ≡ Data i)
Wrong state w i e = (is_blank_word w ≡ false) × (is_damaged_word w ≡ false) × (e ≡ State i)
Wrong file w i e = ⊥

-- or is
abbrev pub Right : Kind → List ℕ → Type 0
Right number w = number_of w ≢ None
Right long w = long_of w ≢ None
Right bytes w = data_of w ≢ None
Right state w = (is_blank_word w ≡ true) ⊎ (is_damaged_word w ≡ true)
Right file w = Unit {0}

-- the first operand, from word i on, that is not what it should be
abbrev pub FirstWrong : List Kind → List (List ℕ) → ℕ → Misread → Type 0
FirstWrong [] ws i e = ⊥
FirstWrong (k ∷ ks) ws i e = Wrong k (word_at ws i) i e ⊎ (Right k (word_at ws i) × FirstWrong ks ws (i + 1) e)

-- what the words from word i on write
abbrev pub NumberAt : List (List ℕ) → ℕ → ℕ → Type 0
NumberAt ws i n = number_of (word_at ws i) ≡ Some n

abbrev pub LongAt : List (List ℕ) → ℕ → ℕ → Type 0
LongAt ws i n = long_of (word_at ws i) ≡ Some n

abbrev pub DataAt : List (List ℕ) → ℕ → Bytes → Type 0
DataAt ws i d = data_of (word_at ws i) ≡ Some (bytes_in d)

abbrev pub PlaceAt : List (List ℕ) → ℕ → Place → Type 0
PlaceAt ws i q = NumberAt ws i q.block × NumberAt ws (i + 1) q.chunk

abbrev pub TagAt : List (List ℕ) → ℕ → Tag → Type 0
TagAt ws i t = NumberAt ws i t.first × NumberAt ws (i + 1) t.second × NumberAt ws (i + 2) t.third × NumberAt ws (i + 3) t.serial

abbrev pub PlanAt : List (List ℕ) → ℕ → Plan → Type 0
PlanAt ws i p = LongAt ws i p.fails × LongAt ws (i + 1) p.damages × LongAt ws (i + 2) p.takes

-- no act fails
abbrev pub no_plan : Plan
no_plan = record { fails = 0; damages = 0; takes = 0 }

-- words of a form say this line
abbrev pub Says : Form → List (List ℕ) → Line → Type 0
Says x ws (Setup (s.Bench z p)) = NumberAt ws 1 z.blocks × NumberAt ws 2 z.chunks × (((x ≡ f.Setup sf.Bench) × (p ≡ no_plan)) ⊎ ((x ≡ f.Setup sf.BenchPlan) × PlanAt ws 3 p))
Says x ws (Setup (s.Plan p)) = (x ≡ f.Setup sf.Plan) × PlanAt ws 1 p
Says x ws (Setup (s.Image w)) = (x ≡ f.Setup sf.Image) × (w.now ≡ word_at ws 1)
Says x ws (Setup (s.Chunk q Blank)) = (x ≡ f.Setup sf.ChunkState) × PlaceAt ws 1 q × (is_blank_word (word_at ws 3) ≡ true)
Says x ws (Setup (s.Chunk q Damaged)) = (x ≡ f.Setup sf.ChunkState) × PlaceAt ws 1 q × (is_damaged_word (word_at ws 3) ≡ true)
Says x ws (Setup (s.Chunk q (Holds t d))) = (x ≡ f.Setup sf.ChunkRecord) × PlaceAt ws 1 q × TagAt ws 3 t × DataAt ws 7 d
Says x ws (Setup s.Dump) = x ≡ f.Setup sf.Dump
Says x ws (Setup (s.Save w)) = (x ≡ f.Setup sf.Save) × (w.now ≡ word_at ws 1)
Says x ws (Chip k.Sizes) = x ≡ f.Chip kf.Sizes
Says x ws (Chip (k.Look q)) = (x ≡ f.Chip kf.Look) × PlaceAt ws 1 q
Says x ws (Chip (k.Fetch q)) = (x ≡ f.Chip kf.Fetch) × PlaceAt ws 1 q
Says x ws (Chip (k.Program q t d)) = (x ≡ f.Chip kf.Program) × PlaceAt ws 1 q × TagAt ws 3 t × DataAt ws 7 d
Says x ws (Chip (k.Erase b)) = (x ≡ f.Chip kf.Erase) × NumberAt ws 1 b
Says x ws (Chip k.Restart) = x ≡ f.Chip kf.Restart
Says x ws (Life l) = x ≡ f.Life l
Says x ws (Change (c.Create o d)) = (x ≡ f.Change cf.Create) × NumberAt ws 1 o × DataAt ws 2 d
Says x ws (Change (c.Rename o d)) = (x ≡ f.Change cf.Rename) × NumberAt ws 1 o × DataAt ws 2 d
Says x ws (Change (c.Delete o)) = (x ≡ f.Change cf.Delete) × NumberAt ws 1 o
Says x ws (Change (c.Open o)) = (x ≡ f.Change cf.Open) × NumberAt ws 1 o
Says x ws (Change (c.Close o)) = (x ≡ f.Change cf.Close) × NumberAt ws 1 o
Says x ws (Change (c.Put o j d)) = (x ≡ f.Change cf.Put) × NumberAt ws 1 o × NumberAt ws 2 j × DataAt ws 3 d
Says x ws (Change (c.Cut o l)) = (x ≡ f.Change cf.Cut) × NumberAt ws 1 o × NumberAt ws 2 l
Says x ws (Ask (a.Find d)) = (x ≡ f.Ask af.Find) × DataAt ws 1 d
Says x ws (Ask (a.Size o)) = (x ≡ f.Ask af.Size) × NumberAt ws 1 o
Says x ws (Ask (a.List n)) = (x ≡ f.Ask af.List) × NumberAt ws 1 n
Says x ws (Ask (a.Read o p n)) = (x ≡ f.Ask af.Read) × NumberAt ws 1 o × LongAt ws 2 p × NumberAt ws 3 n

-- words of a form are read: they say this line, or an operand is not what it should be
abbrev pub LineRead : Form → List (List ℕ) → Result Line Misread → Type 0
LineRead x ws (Ok l) = Says x ws l
LineRead x ws (Err e) = FirstWrong (kinds x) ws 1 e

-- the same of parts of lines
abbrev pub PlaceRead : List (List ℕ) → Result Place Misread → Type 0
PlaceRead ws (Ok q) = PlaceAt ws 1 q
PlaceRead ws (Err e) = FirstWrong (number ∷ number ∷ []) ws 1 e

abbrev pub PlanRead : List (List ℕ) → ℕ → Result Plan Misread → Type 0
PlanRead ws i (Ok p) = PlanAt ws i p
PlanRead ws i (Err e) = FirstWrong (long ∷ long ∷ long ∷ []) ws i e

abbrev pub RecordRead : List (List ℕ) → Result Recorded Misread → Type 0
RecordRead ws (Ok r) = PlaceAt ws 1 r.at × TagAt ws 3 r.tag × DataAt ws 7 r.«data»
RecordRead ws (Err e) = FirstWrong record_kinds ws 1 e

-- words are read by their form
abbrev pub Read : List (List ℕ) → Result Line Misread → Type 0
Read ws (Ok l) = (x : Form) × (found ws ≡ Some x) × Says x ws l
Read ws (Err Memory) = ⊥
Read ws (Err Unknown) = (found ws ≡ None) × (begun ws ≡ false)
Read ws (Err Count) = (found ws ≡ None) × (begun ws ≡ true)
Read ws (Err (Number i)) = (x : Form) × (found ws ≡ Some x) × FirstWrong (kinds x) ws 1 (Number i)
Read ws (Err (Long i)) = (x : Form) × (found ws ≡ Some x) × FirstWrong (kinds x) ws 1 (Long i)
Read ws (Err (Data i)) = (x : Form) × (found ws ≡ Some x) × FirstWrong (kinds x) ws 1 (Data i)
Read ws (Err (State i)) = (x : Form) × (found ws ≡ Some x) × FirstWrong (kinds x) ws 1 (State i)

-- no words are no line; memory may run out at any
abbrev pub Parsed : List (List ℕ) → Result (Option Line) Misread → Type 0
Parsed ws (Ok None) = length ws ≡ 0
Parsed ws (Ok (Some l)) = Read ws (Ok l)
Parsed ws (Err Memory) = Unit {0}
Parsed ws (Err Unknown) = Read ws (Err Unknown)
Parsed ws (Err Count) = Read ws (Err Count)
Parsed ws (Err (Number i)) = Read ws (Err (Number i))
Parsed ws (Err (Long i)) = Read ws (Err (Long i))
Parsed ws (Err (Data i)) = Read ws (Err (Data i))
Parsed ws (Err (State i)) = Read ws (Err (State i))
