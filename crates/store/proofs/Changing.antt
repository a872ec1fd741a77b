-- A change or a collect played on a running store: it is the rules' step, and what the type says of a running store holds after it. Assumes nothing.
use Rattle.std.proofs.Common.{◌≡◌, ℕ, Bool, true, List, [], ◌∷◌, length, take, Some, vec_items, refl, sym, ap, ◌∙◌, subst, inl, inr, arith}
use Rattle.std.proofs.Math.Logic.{∥∥₁_elim, ∥∥₁_map}
use Rattle.std.proofs.Props.{props}
use Rattle.std.proofs.lemmas.Bool.{and_from, eq-eqb}
use Rattle.flash.specs.declared.chunks.Record.{Record}
use Rattle.flash.specs.Blocks.{standing}
use Rattle.flash.specs.Model.{State, blocks_of, view_of}
use Rattle.names.specs.Names.{Mirrors, name_if}
use Rattle.rules.specs.Calls.{Call}
use Rattle.rules.specs.Lists.{Among}
use Rattle.rules.specs.Machine.{Answer, IsChange, IsCollect, acts_of, Step, counted, collected, taken, with_flash}
use Rattle.rules.specs.Mounting.{sizes_fit}
use Rattle.rules.specs.Places.{Flash, Act, adding, copying, erasing, runs, counts, to_clean, does}
use Rattle.rules.specs.Reading.{files}
use Rattle.rules.specs.Refusals.{Store, refusal}
use Rattle.rules.specs.Right.{accepted, after}
use Rattle.rules.specs.Runs.{Stands, Holds, Rightly, TakesAll}
use Rattle.rules.proofs.Whole.{steps-are-right, holding-suffices}
use Rattle.scan.specs.declared.indexes.Index.{Index}
use Rattle.scan.specs.Indexes.{names_in, Knows}
use Rattle.scan.specs.Mounts.{whole_all}
use Rattle.store.specs.Stores.{held_at, store_of}
use Rattle.store.specs.Running.{StandsSo, OpenPresent}
use Rattle.store.proofs.Running.{shaped}
use Rattle.writing.specs.Writing.{flash_of, Tells}

-- a chip takes a list of acts in one way only
takes-prop : (n p : ℕ) (f : Flash) (acts : List Act) → IsProp (TakesAll n p f acts)
takes-prop n p f [] = hlevel props
takes-prop n p f (adding b c r ∷ more) = hlevel (props, takes-prop n p (does f (adding b c r)) more)
takes-prop n p f (copying b c r ∷ more) = hlevel (props, takes-prop n p (does f (copying b c r)) more)
takes-prop n p f (erasing b ∷ more) = hlevel (props, takes-prop n p (does f (erasing b)) more)

whole_from : (rs : List Record) → ((r : Record) → Among r rs → length r.bytes ≡ 2048) → whole_all rs ≡ true
whole_from [] h = refl
whole_from (r ∷ rs) h = and_from _ _ (eq-eqb (length r.bytes) 2048 (h r (inl refl))) (whole_from rs (λ q a. h q (inr a)))

same_store : (n n' p p' : ℕ) (on on' r : Bool) (o : ℕ → Bool) (f f' : Flash) → n ≡ n' → p ≡ p' → on ≡ on' → f ≡ f'
    → ◌≡◌ {A = Store} (record { n = n; p = p; power = on; running = r; opened = o; flash = f }) (record { n = n'; p = p'; power = on'; running = r; opened = o; flash = f' })
same_store n n' p p' on on' r o f f' a b c d = cc

module _ (s : State) (x : Index) (held : List Bool) where
  -- the store, as the rules have it
  abbrev pub old : Store
  old = store_of s true held (vec_items x.standings)

  module _ (k : Knows (view_of s) x) (op : OpenPresent s held) where
    pub flash_told : old.flash ≡ flash_of s x
    flash_told = ap (λ (i : ℕ). record { blocks = blocks_of s; stand = take i (vec_items x.standings) }) (sym k.blocks)

    pub holds : StandsSo s x → Holds 2048 old
    holds st = record {
      shaped = shaped s k.whole;
      mounts = k.accepted;
      powered = λ q. k.on;
      stands = λ q. subst (λ (f : Flash). Stands s.n s.p f) (sym flash_told) st;
      held = λ q o h. op o h;
    }

    -- the chip takes the acts of a call that is not refused
    pub takes : ∥ StandsSo s x ∥₁ → (call : Call) → refusal old call ≡ 0 → TakesAll s.n s.p (flash_of s x) (acts_of 2048 (flash_of s x) call)
    takes st call e =
        ∥∥₁_elim st (takes-prop s.n s.p (flash_of s x) (acts_of 2048 (flash_of s x) call))
        (λ z. subst (λ (f : Flash). TakesAll s.n s.p f (acts_of 2048 f call)) flash_told ((holding-suffices 2048 (omega arith) old (holds z)).takes call e))

    -- after a call whose acts are done: the index tells of the chip, whose contents and standings are what the acts make of them
    module _ (call : Call) (free : refusal old call ≡ 0) (t : State) (y : Index) (n : t.n ≡ s.n) (p : t.p ≡ s.p) (tells : Tells t y)
        (made : flash_of t y ≡ runs (flash_of s x) (acts_of 2048 (flash_of s x) call)) where
      abbrev new : Store
      new = store_of t true held (vec_items y.standings)

      flash_new : new.flash ≡ flash_of t y
      flash_new = ap (λ (i : ℕ). record { blocks = blocks_of t; stand = take i (vec_items y.standings) }) (sym tells.blocks)

      new_is : new ≡ with_flash old (runs old.flash (acts_of 2048 old.flash call))
      new_is =
          same_store _ _ _ _ _ _ true (held_at held) _ _ n p (tells.on ∙ sym k.on)
          (flash_new ∙ made ∙ ap (λ (f : Flash). runs f (acts_of 2048 f call)) (sym flash_told))

      pub stepped : IsChange call → (a b : ℕ) → counts (acts_of 2048 (flash_of s x) call) ≡ (a, b) → Step 2048 old call (counted a b) new
      stepped ch a b e = (ch, free, ap (λ (f : Flash). counts (acts_of 2048 f call)) flash_told ∙ e, new_is)

      pub gathered : IsCollect call → (b c : ℕ) → to_clean (flash_of s x) ≡ Some (b, c) → Step 2048 old call (collected b c) new
      gathered co b c e = (co, free, ap to_clean flash_told ∙ e, new_is)

      module _ (answer : Answer) (step : Step 2048 old call answer new) (yes : taken 2048 old call answer new ≡ true) where
        rightly : StandsSo s x → Rightly 2048 old call answer new
        rightly st = steps-are-right 2048 (omega arith) old new call answer (holds st) step

        files_after : StandsSo s x → (o : ℕ) → files (standing (blocks_of t)) o ≡ accepted (files (standing (blocks_of s))) call o
        files_after st o = (rightly st).rightly o ∙ ap (λ (b : Bool). after (files (standing (blocks_of s))) (record { call = call; taken = b }) o) yes

        -- so the index knows the chip, if its names are those of the files
        knows_from : StandsSo s x → Mirrors (names_in y) (accepted (files (standing (blocks_of s))) call) → Knows (view_of t) y
        knows_from st named = record {
          on = tells.on;
          blocks = tells.blocks;
          chunks = tells.chunks;
          sizes = ap (λ (i : ℕ). sizes_fit i t.p) n ∙ ap (sizes_fit s.n) p ∙ k.sizes;
          mirror = tells.mirror;
          whole = whole_from (standing (blocks_of t)) (rightly st).holds'.shaped.bytes';
          accepted = (rightly st).holds'.mounts;
          named = λ o l u. named o l u ∙ ap name_if (sym (files_after st o));
        }

        pub knows_after : ∥ StandsSo s x ∥₁ → Mirrors (names_in y) (accepted (files (standing (blocks_of s))) call) → Knows (view_of t) y
        knows_after st named = ∥∥₁_elim st (hlevel props) (λ z. knows_from z named)

        pub stands_after : ∥ StandsSo s x ∥₁ → ∥ StandsSo t y ∥₁
        stands_after st = ∥∥₁_map st (λ z. subst (λ (f : Flash). Stands t.n t.p f) flash_new ((rightly z).holds'.stands refl))

        pub present_after : ∥ StandsSo s x ∥₁ → OpenPresent t held
        present_after st o h = ∥∥₁_elim st (hlevel props) (λ z. (rightly z).holds'.held refl o h)
