-- Calls made of their values. Assumes nothing.
use Rattle.std.proofs.Common.{◌≡◌, ℕ, ◌≤◌, Bool, true, false, ◌++◌, List, [], Some, None, Ok, Err, Option, Result, refl, sym, ap, ◌∙◌, subst, inl, inr, arith}
use mathlib.Core.Path.{fun_ext}
use Rattle.flash.specs.declared.faults.Fault.{Fault}
use Rattle.flash.specs.declared.faults.Fault.TheVariants.{Off, NoSuchPlace, NotBlank, SupplyFailed, NoRecord}
use Rattle.flash.specs.Faults.{told as fault_told}
use Rattle.flash.specs.Model.{State, started, blocks_of}
use Rattle.rules.specs.Calls.{Call, mount}
use Rattle.rules.specs.Machine.{none, Answer, Step, refused, counted, collected, granted, broken}
use Rattle.rules.specs.Mounting.{Fault as Fault_r, verdict, mounted}
use Rattle.rules.specs.Places.{Flash}
use Rattle.rules.specs.Refusals.{Store, refusal, fault_table, first_of}
use Rattle.rules.specs.declared.standings.Standing.{Standing}
use Rattle.scan.specs.declared.refusals.Refusal.{Refusal}
use Rattle.scan.specs.declared.refusals.Refusal.TheVariants.{Chip}
use Rattle.scan.specs.Mounts.{place_in, fault_of, verdict_of, runs}
use Rattle.scan.specs.Refusals.{told}
use Rattle.cleaning.specs.declared.adds.Counts.{Counts}
use Rattle.store.specs.Changes.{Changed, Refused}
use Rattle.store.specs.declared.making.Answer.{Answer as Told}
use Rattle.store.specs.declared.making.Answer.TheVariants.{Counted, Collected as Gathered, Granted as Taken, Refused as Denied}
use Rattle.store.specs.Making.{place_of, carried, RefusedBy, Makes, counted_as, granted_as}
use Rattle.store.specs.Stores.{held_at, store_of, NoneHeld, LeftByMount}

-- a refusal that carries no values
refused_by : (s : Store) (call : Call) (e : Refusal) (t : Store) → carried s call ≡ None → Refused s call e t → RefusedBy s call e t
refused_by s call e t n h = record { number = ap (λ q. q.0) h.number; place = ap (λ q. place_in q.1) h.number ∙ sym n; step = h.step }

pub changed_made : (s : Store) (call : Call) (r : Result Counts Refusal) (t : Store) → carried s call ≡ None → Changed s call r t → Makes s call (counted_as r) t
changed_made s call (Ok c) t n h = h
changed_made s call (Err e) t n (inl h) = inl (refused_by s call e t n h)
changed_made s call (Err e) t n (inr h) = inr h

-- a call made is a step of the machine, whose answer tells the same
pub made_step : (s : Store) (call : Call) (a : Told) (t : Store) → Makes s call a t → (b : Answer) × Step 2048 s call b t
made_step s call (Counted c) t h = (counted c.programs c.erases, h)
made_step s call (Gathered b k) t h = (collected b k, h)
made_step s call Taken t h = (granted, h)
made_step s call (Denied e) t (inl h) = (refused (refusal s call), h.step)
made_step s call (Denied e) t (inr h) = (broken h.act, h.step)

-- every refusal has a number
fault_number : (f : Fault) → 1 ≤ (fault_told f).0
fault_number Off = omega arith
fault_number NoSuchPlace = omega arith
fault_number NotBlank = omega arith
fault_number (SupplyFailed a) = omega arith
fault_number NoRecord = omega arith

some_number : (e : Refusal) → 1 ≤ (told e).0
some_number (Chip f) = fault_number f
some_number e = omega arith

-- mount as a step of the machine
module _ (s : State) (on : Bool) (held : List Bool) (ss : List Standing) (t : State) (on' : Bool) (held' : List Bool) (ss' : List Standing) (restarted : t ≡ started s) (empty : NoneHeld held') where
  abbrev st : Store
  st = store_of s on held ss

  abbrev st' : Store
  st' = store_of t on' held' ss'

  none-held : held_at held' ≡ none
  none-held = fun_ext empty

  left : (b : Bool) (f : Flash) → on' ≡ b → st'.flash ≡ f → ◌≡◌ {A = Store} st' (record { n = s.n; p = s.p; power = true; running = b; opened = none; flash = f })
  left b f e h =
      ap (λ (x : State). record { n = x.n; p = x.p; power = x.on; running = on'; opened = held_at held'; flash = st'.flash }) restarted
      ∙ ap (λ (r : Bool). record { n = s.n; p = s.p; power = true; running = r; opened = held_at held'; flash = st'.flash }) e
      ∙ ap (λ (o : ℕ → Bool). record { n = s.n; p = s.p; power = true; running = b; opened = o; flash = st'.flash }) none-held
      ∙ ap (λ (g : Flash). record { n = s.n; p = s.p; power = true; running = b; opened = none; flash = g }) h

  number_is : (v : Option Fault_r) → v ≡ verdict s.n s.p (blocks_of s) → first_of (fault_table v ++ []) ≡ refusal st mount
  number_is v e = ap (λ (m : Option Fault_r). first_of (fault_table m ++ [])) e

  pub mount_made : (r : Result (Unit {0}) Refusal) → verdict_of r ≡ verdict s.n s.p (blocks_of s) → on' ≡ runs r → LeftByMount st r st' → Makes st mount (granted_as r) st'
  mount_made (Ok u) v e h = (sym (number_is None v), left true (mounted (blocks_of s)) e h)
  mount_made (Err k) v e h =
      let q : (told k).0 ≡ refusal st mount = number_is (Some (fault_of (told k))) v in
      inl (record { number = q; place = ap place_of v; step = (refl, subst (λ (i : ℕ). 1 ≤ i) q (some_number k), left false st.flash e h) })
