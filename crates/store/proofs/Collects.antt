-- What a cleaning makes of a running store: its collect is done, or broken off. Assumes nothing.
use Rattle.std.proofs.Common.{◌≡◌, ℕ, Bool, true, false, List, ◌++◌, vec_items, Some, None, Ok, Err, refl, sym, ap, ◌∙◌, subst, arith}
use Rattle.std.proofs.Math.Logic.{∥∥₁_elim}
use Rattle.std.proofs.Props.{props}
use Rattle.flash.specs.declared.faults.Fault.{Fault}
use Rattle.flash.specs.Blocks.{standing}
use Rattle.flash.specs.Model.{State, blocks_of, view_of}
use Rattle.names.specs.Names.{Entries, Mirrors}
use Rattle.rules.specs.Calls.{collect}
use Rattle.rules.specs.Machine.{Answer, Step, refused, counted, collected, granted, broken, Breaks}
use Rattle.rules.specs.Mounting.{verdict}
use Rattle.rules.specs.Places.{Flash, Act, clean, to_clean}
use Rattle.rules.specs.Reading.{files}
use Rattle.rules.specs.Refusals.{Store, refusal, early_table, room_table}
use Rattle.rules.specs.Runs.{TakesAll}
use Rattle.std.proofs.lemmas.Bool.{not-false}
use Rattle.rules.proofs.Checks.{clear-all}
use Rattle.rules.proofs.Whole.{holding-suffices, accepted-throughout}
use Rattle.scan.specs.declared.indexes.Index.{Index}
use Rattle.scan.specs.declared.refusals.Refusal.TheVariants.{Chip}
use Rattle.scan.specs.Indexes.{Knows}
use Rattle.places.specs.declared.victims.Victim.{Victim}
use Rattle.places.specs.Places.{Told}
use Rattle.writing.specs.Writing.{flash_of, Tells, AllDone, BrokenAt}
use Rattle.cleaning.specs.Cleaning.{CleanPlayed}
use Rattle.cleaning.proofs.Spots.{told}
use Rattle.store.specs.Changes.{Broken}
use Rattle.store.specs.Stores.{store_of}
use Rattle.store.specs.Running.{StandsSo, OpenPresent}
use Rattle.store.proofs.Changing.{old, flash_told, holds, takes, gathered, knows_after, stands_after, present_after}

-- a collect that is not refused has a block to clean
some_if : (s t : Store) (a : Answer) → refusal s collect ≡ 0 → ((x : Act) → a ≡ broken x → ⊥) → Step 2048 s collect a t → to_clean s.flash ≡ None → ⊥
some_if s t (refused k) e n h q = absurd (omega (arith, e, h.0, h.1))
some_if s t (counted a b) e n h q = absurd h.0
some_if s t (collected b k) e n h q = cc
some_if s t granted e n h q = absurd h.1
some_if s t (broken x) e n h q = absurd (n x refl)

-- what the check of a collect is handed tells of the contents and standings
pub seen_tells : (s : State) (x seen : Index) (on : Bool) (held : List Bool) → OpenPresent s held → (on ≡ true) × (seen ≡ x) × Knows (view_of s) x → Told (store_of s on held (vec_items x.standings)).flash seen
seen_tells s x seen on held present k =
    subst (λ (i : Index). Told (store_of s on held (vec_items x.standings)).flash i) (sym k.1)
    (subst (λ (f : Flash). Told f x) (sym (flash_told s x held k.2 present)) (told s x (record { on = k.2.on; blocks = k.2.blocks; chunks = k.2.chunks; mirror = k.2.mirror })))

collect_runs : (st : Store) → refusal st collect ≡ 0 → st.running ≡ true
collect_runs st e = not-false _ (clear-all (early_table st collect ++ room_table st collect) (omega arith) e).0

-- a collect on a running store that is not refused
pub record Cleanable (s : State) (x : Index) (on : Bool) (held : List Bool) : Type 0 where
  pub running : on ≡ true
  pub knows : Knows (view_of s) x
  pub stands : ∥ StandsSo s x ∥₁
  pub present : OpenPresent s held
  pub free : refusal (store_of s on held (vec_items x.standings)) collect ≡ 0

pub cleanable : {s : State} {x : Index} {on : Bool} {held : List Bool} → (on ≡ true → Knows (view_of s) x) → (on ≡ true → ∥ StandsSo s x ∥₁) → (on ≡ true → OpenPresent s held)
    → refusal (store_of s on held (vec_items x.standings)) collect ≡ 0 → Cleanable s x on held
cleanable {s = s} {x = x} {on = on} {held = held} knows stands present free =
    let run = collect_runs (store_of s on held (vec_items x.standings)) free in
    record { running = run; knows = knows run; stands = stands run; present = present run; free = free }

module _ {s : State} {x : Index} {on : Bool} {held : List Bool} (a : Cleanable s x on held) where
  tells : Tells s x
  tells = record { on = a.knows.on; blocks = a.knows.blocks; chunks = a.knows.chunks; mirror = a.knows.mirror }

  free : refusal (old s x held) collect ≡ 0
  free = subst (λ (b : Bool). refusal (store_of s b held (vec_items x.standings)) collect ≡ 0) a.running a.free

  taken : TakesAll s.n s.p (flash_of s x) (clean (flash_of s x))
  taken = takes s x held a.knows a.present a.stands collect free

  pub some_block : None ≡ to_clean (flash_of s x) → ⊥
  some_block e =
      ∥∥₁_elim a.stands (hlevel props)
      (λ u. (let g = (holding-suffices 2048 (omega arith) (old s x held) (holds s x held a.knows a.present u)).goes collect free in some_if (old s x held) g.1 g.0 free g.3 g.2 (ap to_clean (flash_told s x held a.knows a.present) ∙ sym e)))

  pub never_none : (t : State) (y : Index) → CleanPlayed s x (Ok None) t y → ⊥
  never_none t y h = some_block (h tells taken).1

  module _ (v : Victim) (t : State) (y : Index) (h : CleanPlayed s x (Ok (Some v)) t y) where
    all : AllDone s x (clean (flash_of s x)) t y
    all = (h tells taken).0

    step : Step 2048 (old s x held) collect (collected v.block v.load) (store_of t true held (vec_items y.standings))
    step = gathered s x held a.knows a.present collect free t y all.beside.same_n all.beside.same_p all.tells all.made tt v.block v.load (sym (h tells taken).1)

    pub collect_done : Step 2048 (store_of s on held (vec_items x.standings)) collect (collected v.block v.load) (store_of t true held (vec_items y.standings))
    collect_done = subst (λ (b : Bool). Step 2048 (store_of s b held (vec_items x.standings)) collect (collected v.block v.load) (store_of t true held (vec_items y.standings))) (sym a.running) step

    pub collect_knows : Knows (view_of t) y
    collect_knows =
        knows_after s x held a.knows a.present collect free t y all.beside.same_n all.beside.same_p all.tells all.made (collected v.block v.load) step refl a.stands
        (subst (λ (es : Entries). Mirrors es (files (standing (blocks_of s)))) (sym all.beside.same_names) a.knows.named)

    pub collect_stands : ∥ StandsSo t y ∥₁
    collect_stands = stands_after s x held a.knows a.present collect free t y all.beside.same_n all.beside.same_p all.tells all.made (collected v.block v.load) step refl a.stands

    pub collect_present : OpenPresent t held
    collect_present = present_after s x held a.knows a.present collect free t y all.beside.same_n all.beside.same_p all.tells all.made (collected v.block v.load) step refl a.stands

  module _ (f : Fault) (t : State) (y : Index) (h : CleanPlayed s x (Err f) t y) where
    stopped : BrokenAt s x (clean (flash_of s x)) f t y
    stopped = h tells taken

    breaks : Breaks (old s x held).flash (clean (old s x held).flash) stopped.act (blocks_of t)
    breaks = subst (λ (g : Flash). Breaks g (clean g) stopped.act (blocks_of t)) (sym (flash_told s x held a.knows a.present)) stopped.left

    mounts-still : verdict t.n t.p (blocks_of t) ≡ None
    mounts-still =
        subst (λ (n : ℕ). verdict n t.p (blocks_of t) ≡ None) (sym stopped.beside.same_n)
        (subst (λ (p : ℕ). verdict s.n p (blocks_of t) ≡ None) (sym stopped.beside.same_p)
        (∥∥₁_elim a.stands (hlevel props) (λ u. accepted-throughout 2048 (omega arith) (old s x held) (holds s x held a.knows a.present u) collect free stopped.act (blocks_of t) breaks)))

    pub collect_broken : Broken (store_of s on held (vec_items x.standings)) collect (Chip f) (store_of t false held (vec_items y.standings))
    collect_broken = record {
      act = stopped.act;
      names = ap Chip stopped.names;
      step = (a.free, breaks, record { same_n = stopped.beside.same_n; same_p = stopped.beside.same_p; off = stopped.off; stopped = refl; same_open = refl });
      mounts = mounts-still;
    }
