-- A call made, of the nine: what it answers and leaves. Assumes nothing.
use Rattle.std.specs.Prelude.{◌≡◌, ◌⊎◌, ℕ, Some, None, Ok, Err, Option, Result}
use Rattle.rules.specs.Calls.{Call, create, put, cut, rename, delete, opens, closes, collect, mount}
use Rattle.rules.specs.Machine.{Step, refused, counted, collected, granted}
use Rattle.rules.specs.Mounting.{Fault, verdict}
use Rattle.rules.specs.Refusals.{Store, refusal}
use Rattle.cleaning.specs.declared.adds.Counts.{Counts}
use Rattle.scan.specs.declared.refusals.Refusal.{Refusal}
use Rattle.scan.specs.Mounts.{place_in}
use Rattle.scan.specs.Refusals.{told}
use Rattle.store.specs.declared.making.Call.{Call as Wanted}
use Rattle.store.specs.declared.making.Call.TheVariants.{Create, Put, Cut, Rename, Delete, Open, Close, Collect, Mount}
use Rattle.store.specs.declared.making.Answer.{Answer}
use Rattle.store.specs.declared.making.Answer.TheVariants.{Counted, Collected as Gathered, Granted as Taken, Refused as Denied}
use Rattle.store.specs.Changes.{Broken}

-- the call, as the rules have it
abbrev pub call_told : Wanted → Call
call_told (Create o name) = create o name.now
call_told (Put f j bs) = put f.number j bs.now
call_told (Cut f n) = cut f.number n
call_told (Rename o name) = rename o name.now
call_told (Delete o) = delete o
call_told (Open o) = opens o
call_told (Close f) = closes f.number
call_told Collect = collect
call_told Mount = mount

-- the place that 10 and 11 of a mount carry; no other refusal carries any
abbrev pub place_of : Option Fault → Option (ℕ × ℕ)
place_of None = None
place_of (Some f) = f.at

abbrev pub carried : Store → Call → Option (ℕ × ℕ)
carried s (create o name) = None
carried s (put o j bs) = None
carried s (cut o n) = None
carried s (rename o name) = None
carried s (delete o) = None
carried s (opens o) = None
carried s (closes o) = None
carried s collect = None
carried s mount = place_of (verdict s.n s.p s.flash.blocks)

-- refused: the answer is the smallest refusal of the call's table that fits, with its place, and the store is as a refusal leaves it
pub record RefusedBy (s : Store) (call : Call) (e : Refusal) (t : Store) : Type 0 where
  pub number : (told e).0 ≡ refusal s call
  pub place : place_in (told e).1 ≡ carried s call
  pub step : Step 2048 s call (refused (refusal s call)) t

-- a change that counts, a collect that tells its block, or a call that is granted is done as the rules have it; or it is refused; or it is broken off
abbrev pub Makes : Store → Call → Answer → Store → Type 0
Makes s call (Counted c) t = Step 2048 s call (counted c.programs c.erases) t
Makes s call (Gathered b k) t = Step 2048 s call (collected b k) t
Makes s call Taken t = Step 2048 s call granted t
Makes s call (Denied e) t = RefusedBy s call e t ⊎ Broken s call e t

-- open, close and mount
abbrev pub Granted : Store → Call → Result (Unit {0}) Refusal → Store → Type 0
Granted s call (Ok u) t = Step 2048 s call granted t
Granted s call (Err e) t = RefusedBy s call e t

-- what each call answers, as an answer
abbrev pub counted_as : Result Counts Refusal → Answer
counted_as (Ok c) = Counted c
counted_as (Err e) = Denied e

abbrev pub collected_as : Result (ℕ × ℕ) Refusal → Answer
collected_as (Ok (b, k)) = Gathered b k
collected_as (Err e) = Denied e

abbrev pub granted_as : Result (Unit {0}) Refusal → Answer
granted_as (Ok u) = Taken
granted_as (Err e) = Denied e
