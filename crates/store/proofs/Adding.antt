-- What a record added makes of a running store: its change is done, or broken off. Assumes nothing.
use Rattle.std.proofs.Common.{◌≡◌, ℕ, Bool, true, false, List, vec_items, None, Ok, Err, refl, sym, ap, ◌∙◌, subst, arith}
use Rattle.std.proofs.Math.Logic.{∥∥₁_elim}
use Rattle.std.proofs.Props.{props}
use Rattle.flash.specs.declared.chunks.Record.{Record}
use Rattle.flash.specs.declared.faults.Fault.{Fault}
use Rattle.flash.specs.Blocks.{standing}
use Rattle.flash.specs.Model.{State, blocks_of, view_of}
use Rattle.names.specs.Names.{Mirrors}
use Rattle.rules.specs.Calls.{Call, create, put, cut, rename, delete, opens, closes, collect, mount, record_of}
use Rattle.rules.specs.Machine.{IsChange, acts_of, Step, counted, Breaks}
use Rattle.rules.specs.Mounting.{verdict}
use Rattle.rules.specs.Places.{Flash, Act, runs, counts}
use Rattle.rules.specs.Reading.{files}
use Rattle.rules.specs.Refusals.{refusal}
use Rattle.rules.specs.Right.{accepted}
use Rattle.rules.specs.Runs.{TakesAll}
use Rattle.rules.proofs.Whole.{accepted-throughout}
use Rattle.scan.specs.declared.indexes.Index.{Index}
use Rattle.scan.specs.declared.refusals.Refusal.TheVariants.{Chip}
use Rattle.scan.specs.Indexes.{names_in, Knows}
use Rattle.writing.specs.Writing.{flash_of, Tells, AllDone, BrokenAt}
use Rattle.cleaning.specs.declared.adds.Counts.{Counts}
use Rattle.cleaning.specs.Cleaning.{acts_to_add, AddPlayed}
use Rattle.store.specs.Changes.{Broken}
use Rattle.store.specs.Stores.{store_of}
use Rattle.store.specs.Running.{StandsSo, OpenPresent}
use Rattle.store.proofs.Changing.{old, flash_told, holds, takes, stepped, knows_after, stands_after, present_after}

-- a change on a running store that is not refused, and the record that it adds
pub record Ready (s : State) (x : Index) (on : Bool) (held : List Bool) (call : Call) (r : Record) : Type 0 where
  pub running : on ≡ true
  pub knows : Knows (view_of s) x
  pub stands : ∥ StandsSo s x ∥₁
  pub present : OpenPresent s held
  pub change : IsChange call
  pub free : refusal (store_of s on held (vec_items x.standings)) call ≡ 0
  pub adds : r ≡ record_of 2048 (standing (blocks_of s)) call

-- an index with other names
pub record Renamed (y z : Index) : Type 0 where
  pub sizes : z.sizes ≡ y.sizes
  pub rows : vec_items z.rows ≡ vec_items y.rows
  pub stands : vec_items z.standings ≡ vec_items y.standings

acts_are : (f : Flash) (call : Call) → IsChange call → acts_of 2048 f call ≡ acts_to_add f (record_of 2048 (standing f.blocks) call)
unfolding acts_to_add
acts_are f (create o name) c = refl
acts_are f (put o j bs) c = refl
acts_are f (cut o n) c = refl
acts_are f (rename o name) c = refl
acts_are f (delete o) c = refl
acts_are f (opens o) c = absurd c
acts_are f (closes o) c = absurd c
acts_are f collect c = absurd c
acts_are f mount c = absurd c

module _ {s : State} {x : Index} {on : Bool} {held : List Bool} {call : Call} {r : Record} (a : Ready s x on held call r) where
  tells : Tells s x
  tells = record { on = a.knows.on; blocks = a.knows.blocks; chunks = a.knows.chunks; mirror = a.knows.mirror }

  free : refusal (old s x held) call ≡ 0
  free = subst (λ (b : Bool). refusal (store_of s b held (vec_items x.standings)) call ≡ 0) a.running a.free

  planned : acts_to_add (flash_of s x) r ≡ acts_of 2048 (flash_of s x) call
  planned = ap (acts_to_add (flash_of s x)) a.adds ∙ sym (acts_are (flash_of s x) call a.change)

  taken : TakesAll s.n s.p (flash_of s x) (acts_to_add (flash_of s x) r)
  taken = subst (TakesAll s.n s.p (flash_of s x)) (sym planned) (takes s x held a.knows a.present a.stands call free)

  module _ (c : Counts) (t : State) (y : Index) (h : AddPlayed s x r (Ok c) t y) where
    all : AllDone s x (acts_to_add (flash_of s x) r) t y
    all = (h tells taken).0

    made : flash_of t y ≡ runs (flash_of s x) (acts_of 2048 (flash_of s x) call)
    made = all.made ∙ ap (runs (flash_of s x)) planned

    pub same_names : names_in y ≡ names_in x
    same_names = all.beside.same_names

    step : Step 2048 (old s x held) call (counted c.programs c.erases) (store_of t true held (vec_items y.standings))
    step = stepped s x held a.knows a.present call free t y all.beside.same_n all.beside.same_p all.tells made a.change c.programs c.erases (sym (ap counts planned) ∙ (h tells taken).1)

    pub step_done : Step 2048 (store_of s on held (vec_items x.standings)) call (counted c.programs c.erases) (store_of t true held (vec_items y.standings))
    step_done =
        subst (λ (b : Bool). Step 2048 (store_of s b held (vec_items x.standings)) call (counted c.programs c.erases) (store_of t true held (vec_items y.standings))) (sym a.running) step

    pub stands_still : ∥ StandsSo t y ∥₁
    stands_still = stands_after s x held a.knows a.present call free t y all.beside.same_n all.beside.same_p all.tells made (counted c.programs c.erases) step refl a.stands

    pub present_still : OpenPresent t held
    present_still = present_after s x held a.knows a.present call free t y all.beside.same_n all.beside.same_p all.tells made (counted c.programs c.erases) step refl a.stands

    module _ (z : Index) (q : Renamed y z) where
      tells_too : Tells t z
      tells_too = record {
        on = all.tells.on;
        blocks = ap (λ i. i.blocks) q.sizes ∙ all.tells.blocks;
        chunks = ap (λ i. i.chunks) q.sizes ∙ all.tells.chunks;
        mirror = (let e = all.tells.mirror in rw (q.sizes, q.rows) e);
      }

      made_too : flash_of t z ≡ runs (flash_of s x) (acts_of 2048 (flash_of s x) call)
      made_too = rw (q.sizes, q.stands) made

      step_too : Step 2048 (old s x held) call (counted c.programs c.erases) (store_of t true held (vec_items z.standings))
      step_too = stepped s x held a.knows a.present call free t z all.beside.same_n all.beside.same_p tells_too made_too a.change c.programs c.erases (sym (ap counts planned) ∙ (h tells taken).1)

      pub knows_still : Mirrors (names_in z) (accepted (files (standing (blocks_of s))) call) → Knows (view_of t) z
      knows_still named = knows_after s x held a.knows a.present call free t z all.beside.same_n all.beside.same_p tells_too made_too (counted c.programs c.erases) step_too refl a.stands named

  module _ (f : Fault) (t : State) (y : Index) (h : AddPlayed s x r (Err f) t y) where
    stopped : BrokenAt s x (acts_to_add (flash_of s x) r) f t y
    stopped = h tells taken

    breaks : Breaks (old s x held).flash (acts_of 2048 (old s x held).flash call) stopped.act (blocks_of t)
    breaks =
        subst (λ (g : Flash). Breaks g (acts_of 2048 g call) stopped.act (blocks_of t)) (sym (flash_told s x held a.knows a.present))
        (subst (λ (acts : List Act). Breaks (flash_of s x) acts stopped.act (blocks_of t)) planned stopped.left)

    mounts-still : verdict t.n t.p (blocks_of t) ≡ None
    mounts-still =
        subst (λ (n : ℕ). verdict n t.p (blocks_of t) ≡ None) (sym stopped.beside.same_n)
        (subst (λ (p : ℕ). verdict s.n p (blocks_of t) ≡ None) (sym stopped.beside.same_p)
        (∥∥₁_elim a.stands (hlevel props) (λ u. accepted-throughout 2048 (omega arith) (old s x held) (holds s x held a.knows a.present u) call free stopped.act (blocks_of t) breaks)))

    pub broken_off : Broken (store_of s on held (vec_items x.standings)) call (Chip f) (store_of t false held (vec_items y.standings))
    broken_off = record {
      act = stopped.act;
      names = ap Chip stopped.names;
      step = (a.free, breaks, record { same_n = stopped.beside.same_n; same_p = stopped.beside.same_p; off = stopped.off; stopped = refl; same_open = refl });
      mounts = mounts-still;
    }
