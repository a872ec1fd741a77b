-- What a call of a chip or a store is answered, and what it leaves. Assumes nothing.
use Rattle.std.specs.Prelude.{◌≡◌, ℕ, ◌<◌, ◌≤◌, Bool, false, ◌⊎◌, List, length, replicate, Some, None, Option, Ok, Err, vec_items, Result, MatchBool, ◌==◌, true, [], slice_index_or}
use Rattle.std.specs.List.{list_any}
use Rattle.flash.specs.declared.chunks.Place.{Place}
use Rattle.flash.specs.declared.chunks.Record.{Record}
use Rattle.flash.specs.declared.chunks.Tag.{Tag}
use Rattle.flash.specs.declared.faults.Fault.{Fault}
use Rattle.flash.specs.declared.faults.Purpose.TheVariants.{Adding}
use Rattle.flash.specs.Model.{State, started, blocks_of}
use Rattle.flash.specs.Reads.{Looked, Fetched}
use Rattle.flash.specs.Writes.{Programmed, Erased}
use Rattle.rules.specs.Calls.{Call, padded, rows, create, put, cut, rename, delete, opens}
use Rattle.rules.specs.Reading.{files}
use Rattle.rules.specs.Machine.{Step, granted}
use Rattle.rules.specs.Refusals.{Store, recs, first_of, list_table}
use Rattle.scan.specs.declared.refusals.Refusal.{Refusal}
use Rattle.scan.specs.declared.refusals.Refusal.TheVariants.{Chip}
use Rattle.cleaning.specs.declared.adds.Counts.{Counts as Took}
use Rattle.questions.specs.Questions.{FindAnswered, SizeAnswered, ReadAnswered}
use Rattle.store.specs.declared.tickets.Ticket.{Ticket}
use Rattle.store.specs.Changes.{Changed, Collected, Refused as Declined}
use Rattle.store.specs.Opening.{Closed}
use Rattle.scan.specs.Formats.{Formatted}
use Rattle.scan.specs.Mounts.{verdict_of}
use Rattle.scan.specs.Refusals.{told}
use Rattle.rules.specs.Mounting.{verdict}
use Rattle.scripts.specs.Bytes.{bytes_in}
use Rattle.scripts.specs.declared.lines.ChipCall.{ChipCall}
use Rattle.scripts.specs.declared.lines.ChipCall.TheVariants as k
use Rattle.scripts.specs.declared.lines.Change.{Change}
use Rattle.scripts.specs.declared.lines.Change.TheVariants as c
use Rattle.scripts.specs.declared.lines.Ask.{Ask}
use Rattle.scripts.specs.declared.lines.Ask.TheVariants as q
use Rattle.replays.specs.declared.answers.Misuse.TheVariants.{NoTicket, TooLong}
use Rattle.replays.specs.declared.answers.Answer.{Answer}
use Rattle.replays.specs.declared.answers.Answer.TheVariants.{Done, Counts, Cleaned, Found, Number, Rows, Read, Sizes, Look, Fetched as Bytes, Refused, Misuse}

-- a record of these numbers and bytes, which zeros follow; none where there are more bytes than fit
abbrev pub RecordMade : Tag → List ℕ → Option Record → Type 0
RecordMade t bs None = 2048 < length bs
RecordMade t bs (Some r) = (length bs ≤ 2048) × (r ≡ record { tag = t; bytes = padded 2048 bs })

-- what a look, a fetch and a call that writes came to is told
abbrev pub LookTold : State → Place → Answer → Type 0
LookTold s p (Look l) = Looked s p (Ok l)
LookTold s p (Refused (Chip f)) = Looked s p (Err f)
LookTold s p _ = ⊥

-- the buffer of a fetch or a read, before
abbrev pub fresh : ℕ → List ℕ
fresh n = replicate n 170

abbrev pub FetchTold : State → Place → Answer → Type 0
FetchTold s p (Bytes bs) = Fetched s p (fresh 2048) (Ok tt) bs
FetchTold s p (Refused (Chip f)) = Fetched s p (fresh 2048) (Err f) (fresh 2048)
FetchTold s p _ = ⊥

abbrev pub done_of : Result (Unit {0}) Fault → Answer
done_of (Ok u) = Done
done_of (Err f) = Refused (Chip f)

abbrev pub WriteTold : (Result (Unit {0}) Fault → Type 0) → Answer → Type 0
WriteTold P a = (r : Result (Unit {0}) Fault) × P r × (a ≡ done_of r)

-- a call of the chip
abbrev pub ChipAnswered : State → ChipCall → Answer → State → Type 0
ChipAnswered s k.Sizes a t = (t ≡ s) × (a ≡ Sizes (record { blocks = s.n; chunks = s.p }))
ChipAnswered s (k.Look p) a t = (t ≡ s) × LookTold s p a
ChipAnswered s (k.Fetch p) a t = (t ≡ s) × FetchTold s p a
ChipAnswered s (k.Program p g d) a t = ((2048 < length (bytes_in d)) × (a ≡ Misuse TooLong) × (t ≡ s))
    ⊎ ((length (bytes_in d) ≤ 2048) × WriteTold (λ r. Programmed s Adding p (record { tag = g; bytes = padded 2048 (bytes_in d) }) r t) a)
ChipAnswered s (k.Erase b) a t = WriteTold (λ r. Erased s b r t) a
ChipAnswered s k.Restart a t = (a ≡ Done) × (t ≡ started s)

-- what a call of the store came to is told
abbrev pub refused_of : Result (Unit {0}) Refusal → Answer
refused_of (Ok u) = Done
refused_of (Err e) = Refused e

abbrev pub counted_of : Result Took Refusal → Answer
counted_of (Ok n) = Counts n
counted_of (Err e) = Refused e

-- a format, a mount
abbrev pub FormatTold : State → Answer → State → Type 0
FormatTold s a t = (r : Result (Unit {0}) Refusal) × Formatted s r t × (a ≡ refused_of r)

abbrev pub MountTold : State → Answer → State → Type 0
MountTold s a t = (r : Result (Unit {0}) Refusal) × (verdict_of r ≡ verdict s.n s.p (blocks_of s)) × (a ≡ refused_of r) × (t ≡ started s)

-- a change of the store
abbrev pub ChangeTold : Store → Call → Answer → Store → Type 0
ChangeTold s call a t = (r : Result Took Refusal) × Changed s call r t × (a ≡ counted_of r)

abbrev pub OpenTold : Store → ℕ → Answer → Store → Type 0
OpenTold s o (Number n) t = (n ≡ o) × Step 2048 s (opens o) granted t
OpenTold s o (Refused e) t = Declined s (opens o) e t
OpenTold s o _ t = ⊥

abbrev pub CloseTold : Store → ℕ → Answer → Store → Type 0
CloseTold s o a t = (r : Result (Unit {0}) Refusal) × Closed s o r t × (a ≡ refused_of r)

abbrev pub CollectTold : Store → Answer → Store → Type 0
CollectTold s (Cleaned b n) t = Collected s (Ok (b, n)) t
CollectTold s (Refused e) t = Collected s (Err e) t
CollectTold s _ t = ⊥

-- a ticket is held for the object
abbrev pub holds : List Ticket → ℕ → Bool
holds ks o = list_any (λ k. k.object == o) ks

-- the place of one
abbrev pub PlaceOf : List Ticket → ℕ → Option ℕ → Type 0
PlaceOf ks o None = holds ks o ≡ false
PlaceOf ks o (Some i) = (holds ks o ≡ true) × (i < length ks) × ((k : Ticket) → (slice_index_or ks i k).object ≡ o)

-- with a ticket as P says; with none nothing is done
abbrev pub WithTicket : Bool → (Answer → Store → Type 0) → Store → Answer → Store → Type 0
WithTicket held P s a t = MatchBool held (P a t) ((a ≡ Misuse NoTicket) × (t ≡ s))

-- a change, an open or a close, where these tickets are held
abbrev pub ChangeAnswered : List Ticket → Store → Change → Answer → Store → Type 0
ChangeAnswered ks s (c.Create o d) a t = ChangeTold s (create o (bytes_in d)) a t
ChangeAnswered ks s (c.Rename o d) a t = ChangeTold s (rename o (bytes_in d)) a t
ChangeAnswered ks s (c.Delete o) a t = ChangeTold s (delete o) a t
ChangeAnswered ks s (c.Open o) a t = OpenTold s o a t
ChangeAnswered ks s (c.Close o) a t = WithTicket (holds ks o) (CloseTold s o) s a t
ChangeAnswered ks s (c.Put o j d) a t = WithTicket (holds ks o) (ChangeTold s (put o j (bytes_in d))) s a t
ChangeAnswered ks s (c.Cut o l) a t = WithTicket (holds ks o) (ChangeTold s (cut o l)) s a t

-- what a question came to is told
abbrev pub FindTold : Store → List ℕ → Answer → Type 0
FindTold s name (Found o) = FindAnswered s name (Ok o)
FindTold s name (Refused e) = FindAnswered s name (Err e)
FindTold s name _ = ⊥

abbrev pub SizeTold : Store → ℕ → Answer → Type 0
SizeTold s o (Number n) = SizeAnswered s o (Ok n)
SizeTold s o (Refused e) = SizeAnswered s o (Err e)
SizeTold s o _ = ⊥

-- the rows of all files, where so many rows do
abbrev pub ListTold : Store → ℕ → Answer → Type 0
ListTold s n (Rows v) = (first_of (list_table s n) ≡ 0) × (vec_items v ≡ rows (files (recs s)))
ListTold s n (Refused e) = told e ≡ (first_of (list_table s n), [])
ListTold s n _ = ⊥

abbrev pub ReadTold : Store → ℕ → ℕ → ℕ → Answer → Type 0
ReadTold s o p n (Read k v) = ReadAnswered s o p (fresh n) (Ok k) (vec_items v)
ReadTold s o p n (Refused e) = ReadAnswered s o p (fresh n) (Err e) (fresh n)
ReadTold s o p n _ = ⊥

-- a question
abbrev pub AskAnswered : Store → Ask → Answer → Type 0
AskAnswered s (q.Find d) a = FindTold s (bytes_in d) a
AskAnswered s (q.Size o) a = SizeTold s o a
AskAnswered s (q.List n) a = ListTold s n a
AskAnswered s (q.Read o p n) a = ReadTold s o p n a
