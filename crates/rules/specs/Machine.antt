-- The store as a machine: what each of the nine calls may answer and leave. `w` is the number of data bytes of a chunk, 2,048. Assumes nothing.
use Rattle.std.specs.Prelude.{◌≡◌, ℕ, ◌≤◌, Bool, true, false, not, ◌&&◌, ◌||◌, ◌⊎◌, List, [], ◌∷◌, Some, ◌==◌}
use Rattle.rules.specs.Lists.{any}
use Rattle.rules.specs.Places.{plan, Flash, Act, runs, clean, to_clean, counts, does}
use Rattle.rules.specs.Mounting.{mounted, same_record}
use Rattle.rules.specs.Calls.{Call, create, put, cut, rename, delete, opens, closes, collect, mount, record_of}
use Rattle.rules.specs.Right.{Made}
use Rattle.rules.specs.Refusals.{Store, recs, refusal}
use Rattle.rules.specs.Safety.{Failed}
use Rattle.flash.specs.declared.chunks.Chunk.{Chunk}
use Rattle.flash.specs.Blocks.{standing}

-- what a call answers: a refusal's number; a change's two counts, chunks programmed and blocks erased; the block that collect cleaned and the
-- number of its copies; nothing more, of open, close and mount; and 7, with the act at which the supply failed
pub data Answer : Type 0 where
  refused : ℕ → Answer
  counted : ℕ → ℕ → Answer
  collected : ℕ → ℕ → Answer
  granted : Answer
  broken : Act → Answer

abbrev pub IsChange : Call → Type 0
IsChange (create o name) = Unit {0}
IsChange (put o j bs) = Unit {0}
IsChange (cut o k) = Unit {0}
IsChange (rename o name) = Unit {0}
IsChange (delete o) = Unit {0}
IsChange (opens o) = ⊥
IsChange (closes o) = ⊥
IsChange collect = ⊥
IsChange mount = ⊥

abbrev pub IsCollect : Call → Type 0
IsCollect (create o name) = ⊥
IsCollect (put o j bs) = ⊥
IsCollect (cut o k) = ⊥
IsCollect (rename o name) = ⊥
IsCollect (delete o) = ⊥
IsCollect (opens o) = ⊥
IsCollect (closes o) = ⊥
IsCollect collect = Unit {0}
IsCollect mount = ⊥

-- create and put, the calls that may want room
abbrev pub Fills : Call → Type 0
Fills (create o name) = Unit {0}
Fills (put o j bs) = Unit {0}
Fills (cut o k) = ⊥
Fills (rename o name) = ⊥
Fills (delete o) = ⊥
Fills (opens o) = ⊥
Fills (closes o) = ⊥
Fills collect = ⊥
Fills mount = ⊥

-- adding the record of a change; its serial is above those that stand as the call begins, whatever is cleaned. The count of cleanings, 9, is never
-- reached: two are enough
abbrev pub acts : ℕ → Flash → Call → List Act
acts w s call = plan 9 s (record_of w (standing s.blocks) call)

-- the programs and erases of a call that is not refused, in order
abbrev pub acts_of : ℕ → Flash → Call → List Act
acts_of w s (create o name) = acts w s (create o name)
acts_of w s (put o j bs) = acts w s (put o j bs)
acts_of w s (cut o k) = acts w s (cut o k)
acts_of w s (rename o name) = acts w s (rename o name)
acts_of w s (delete o) = acts w s (delete o)
acts_of w s (opens o) = []
acts_of w s (closes o) = []
acts_of w s collect = clean s
acts_of w s mount = []

-- the supply fails at the act x: those before it are done, and of x the chip Holds what its rules allow
abbrev pub Breaks : Flash → List Act → Act → List (List Chunk) → Type 0
Breaks s [] x bs' = ⊥
Breaks s (a ∷ more) x bs' = ((x ≡ a) × Failed s.blocks a bs') ⊎ Breaks (does s a) more x bs'

abbrev pub with_flash : Store → Flash → Store
with_flash s f = record { n = s.n; p = s.p; power = s.power; running = s.running; opened = s.opened; flash = f }

-- which files are open: none, and one more or one fewer
abbrev pub none : ℕ → Bool
none k = false

abbrev pub opening : ℕ → (ℕ → Bool) → ℕ → Bool
opening o held k = k == o || held k

abbrev pub closing : ℕ → (ℕ → Bool) → ℕ → Bool
closing o held k = not (k == o) && held k

abbrev pub with_opened : Store → (ℕ → Bool) → Store
with_opened s os = record { n = s.n; p = s.p; power = s.power; running = s.running; opened = os; flash = s.flash }

-- a refusal changes nothing, but a refused mount has restarted the chip, and leaves the store stopped with no file open
abbrev pub when_refused : Store → Call → Store
when_refused s (create o name) = s
when_refused s (put o j bs) = s
when_refused s (cut o k) = s
when_refused s (rename o name) = s
when_refused s (delete o) = s
when_refused s (opens o) = s
when_refused s (closes o) = s
when_refused s collect = s
when_refused s mount = record { n = s.n; p = s.p; power = true; running = false; opened = none; flash = s.flash }

-- what open, close and mount leave; the others answer more
abbrev pub Granted : Store → Call → Store → Type 0
Granted s (create o name) t = ⊥
Granted s (put o j bs) t = ⊥
Granted s (cut o k) t = ⊥
Granted s (rename o name) t = ⊥
Granted s (delete o) t = ⊥
Granted s (opens o) t = t ≡ with_opened s (opening o s.opened)
Granted s (closes o) t = t ≡ with_opened s (closing o s.opened)
Granted s collect t = ⊥
Granted s mount t = t ≡ record { n = s.n; p = s.p; power = true; running = true; opened = none; flash = mounted s.flash.blocks }

-- after 7 the chip is off and the store is stopped, and open files stay open; how its blocks stand no longer counts
pub record Stopped (s t : Store) : Type 0 where
  pub same_n : t.n ≡ s.n
  pub same_p : t.p ≡ s.p
  pub off : t.power ≡ false
  pub stopped : t.running ≡ false
  pub same_open : t.opened ≡ s.opened

-- the call may give this answer and leave the store so
abbrev pub Step : ℕ → Store → Call → Answer → Store → Type 0
Step w s call (refused k) t = (refusal s call ≡ k) × (1 ≤ k) × (t ≡ when_refused s call)
Step w s call (counted a b) t = IsChange call × (refusal s call ≡ 0) × (counts (acts_of w s.flash call) ≡ (a, b)) × (t ≡ with_flash s (runs s.flash (acts_of w s.flash call)))
Step w s call (collected b k) t = IsCollect call × (refusal s call ≡ 0) × (to_clean s.flash ≡ Some (b, k)) × (t ≡ with_flash s (runs s.flash (acts_of w s.flash call)))
Step w s call granted t = (refusal s call ≡ 0) × Granted s call t
Step w s call (broken x) t = (refusal s call ≡ 0) × Breaks s.flash (acts_of w s.flash call) x t.flash.blocks × Stopped s t

-- a call made, its answer, and the store after it
pub record Event : Type 0 where
  pub call : Call
  pub answer : Answer
  pub after : Store

abbrev pub Run : ℕ → Store → List Event → Type 0
Run w s [] = Unit {0}
Run w s (e ∷ es) = Step w s e.call e.answer e.after × Run w e.after es

abbrev pub last_of : Store → List Event → Store
last_of s [] = s
last_of s (e ∷ es) = last_of e.after es

-- accepted: not refused; a change that answers 7, exactly when the chip then holds the record that it was to add
abbrev pub taken : ℕ → Store → Call → Answer → Store → Bool
taken w s call (refused k) t = false
taken w s call (counted a b) t = true
taken w s call (collected b k) t = true
taken w s call granted t = true
taken w s call (broken x) t = any (same_record (record_of w (recs s) call)) (recs t)

abbrev pub made_of : ℕ → Store → List Event → List Made
made_of w s [] = []
made_of w s (e ∷ es) = record { call = e.call; taken = taken w s e.call e.answer e.after } ∷ made_of w e.after es
