-- One act done on a chip and noted in its index. Assumes nothing.
use Rattle.std.proofs.Common.{◌≡◌, ◌≢◌, ℕ, suc, true, false, ◌+◌, ◌<◌, Bool, cond, refl, [], ◌∷◌, length, get_or, set, take, vec_items, ◌==◌, sym, ap, ◌∙◌, arith, get_or-take}
use Rattle.std.proofs.Math.Seq.{take-set-lt}
use Rattle.flash.specs.declared.chunks.Chunk.TheVariants.{Holds}
use Rattle.flash.specs.declared.chunks.Place.{Place}
use Rattle.flash.specs.declared.chunks.Record.{Record}
use Rattle.flash.specs.declared.chunks.Sizes.{Sizes}
use Rattle.flash.specs.declared.faults.Purpose.{Purpose}
use Rattle.flash.specs.declared.faults.Purpose.TheVariants.{Adding as ToAdd, Copying as ToCopy}
use Rattle.flash.specs.Blocks.{put_at}
use Rattle.flash.specs.Model.{State, blocks_of}
use Rattle.flash.specs.Writes.{ProgramDone, Erases, IsBlank}
use Rattle.flash.proofs.Views.{block-length, put_view, erase-view}
use Rattle.rules.specs.declared.standings.Event.TheVariants.{Opened}
use Rattle.rules.specs.declared.standings.Standing.{Standing}
use Rattle.rules.specs.declared.standings.Standing.TheVariants.{Blank as blank_s, Open as open_s, Closed as closed_s}
use Rattle.rules.specs.Laws.{filled_if}
use Rattle.rules.specs.Places.{moved, programmed, erasing, runs}
use Rattle.scan.specs.declared.indexes.Index.{Index}
use Rattle.scan.specs.Indexes.{stands_in}
use Rattle.writing.specs.Notes.{ProgramNoted, EraseNoted}
use Rattle.writing.specs.Writing.{Tells, flash_of, to_program, AllDone}
use Rattle.writing.proofs.Noted.{program-told, erase-told}

-- the standings with one block's changed
stands-set : (x y : Index) (b : ℕ) (v : Standing) → b < x.sizes.blocks → y.sizes ≡ x.sizes → vec_items y.standings ≡ set (vec_items x.standings) b v → stands_in y ≡ set (stands_in x) b v
stands-set x y b v h e n =
    ap (λ (z : Sizes). take z.blocks (vec_items y.standings)) e ∙ ap (take x.sizes.blocks) n ∙ take-set-lt x.sizes.blocks (vec_items x.standings) b v h

-- a block that is not closed is opened, and filled by its last chunk
opened-filled : (x : Standing) (last : Bool) → x ≢ closed_s → filled_if last (moved Opened x) ≡ cond last closed_s open_s
opened-filled blank_s true n = refl
opened-filled blank_s false n = refl
opened-filled open_s true n = refl
opened-filled open_s false n = refl
opened-filled closed_s last n = absurd (n refl)

-- a block that takes a record is open, or closed where that was its last chunk
block-moved : (s : State) (x : Index) (b c : ℕ) → Tells s x → b < x.sizes.blocks → get_or (stands_in x) b closed_s ≢ closed_s
    → filled_if (c + 1 == x.sizes.chunks) (moved Opened (get_or (vec_items x.standings) b closed_s)) ≡ cond (suc c == length (get_or (blocks_of s) b [])) closed_s open_s
block-moved s x b c t h n =
    let p : x.sizes.chunks ≡ length (get_or (blocks_of s) b []) = t.chunks ∙ sym (block-length s b (omega (arith, t.blocks))) in
    let last : (c + 1 == x.sizes.chunks) ≡ (suc c == length (get_or (blocks_of s) b [])) = ap (λ (z : ℕ). z == x.sizes.chunks) (let e : c + 1 ≡ suc c = omega arith in e) ∙ ap (λ (z : ℕ). suc c == z) p in
    ap (λ (z : Standing). filled_if (c + 1 == x.sizes.chunks) (moved Opened z)) (sym (get_or-take x.sizes.blocks (vec_items x.standings) b closed_s h))
    ∙ opened-filled (get_or (stands_in x) b closed_s) (c + 1 == x.sizes.chunks) n
    ∙ ap (λ (z : Bool). cond z closed_s open_s) last

pub program-done : (s t : State) (x y : Index) (u : Purpose) (q : Place) (r : Record) → Tells s x → get_or (stands_in x) q.block closed_s ≢ closed_s → ProgramDone s q r t
    → (q.block < x.sizes.blocks → q.chunk < x.sizes.chunks → ProgramNoted x q r.tag y) → AllDone s x (to_program u q r ∷ []) t y
unfolding programmed
program-done s t x y u q r a n d note =
    let hb = d.taken.within.block in
    let hc = d.taken.within.chunk in
    let ib : q.block < x.sizes.blocks = omega (arith, a.blocks) in
    let w = note ib (omega (arith, a.chunks)) in
    record {
      tells = record {
        on = d.power;
        blocks = ap (λ (z : Sizes). z.blocks) w.same_sizes ∙ a.blocks ∙ sym d.after.n_same;
        chunks = ap (λ (z : Sizes). z.chunks) w.same_sizes ∙ a.chunks ∙ sym d.after.p_same;
        mirror = program-told a y t q r hb hc d.after w;
      };
      made = by u (put_view s t q.block q.chunk (Holds r) hb hc d.after) (stands-set x y q.block _ ib w.same_sizes w.stands ∙ ap (set (stands_in x) q.block) (block-moved s x q.block q.chunk a ib n));
      beside = record { same_n = d.after.n_same; same_p = d.after.p_same; same_sizes = w.same_sizes; same_names = w.same_names };
    }
  where
    by : (u : Purpose) → blocks_of t ≡ put_at (blocks_of s) q.block q.chunk (Holds r)
        → stands_in y ≡ set (stands_in x) q.block (cond (suc q.chunk == length (get_or (blocks_of s) q.block [])) closed_s open_s)
        → flash_of t y ≡ runs (flash_of s x) (to_program u q r ∷ [])
    by ToAdd e f = λ i. record { blocks = e i; stand = f i }
    by ToCopy e f = λ i. record { blocks = e i; stand = f i }

pub erase-done : (s t : State) (x y : Index) (b : ℕ) → Tells s x → Erases IsBlank true s b t → (b < x.sizes.blocks → EraseNoted x b y) → AllDone s x (erasing b ∷ []) t y
erase-done s t x y b a d note =
    let ib : b < x.sizes.blocks = omega (arith, a.blocks, d.within) in
    let w = note ib in
    let e = erase-view s t b d.within d.after in
    let f = stands-set x y b blank_s ib w.same_sizes w.stands in
    record {
      tells = record {
        on = d.left_on;
        blocks = ap (λ (z : Sizes). z.blocks) w.same_sizes ∙ a.blocks ∙ sym d.after.n_same;
        chunks = ap (λ (z : Sizes). z.chunks) w.same_sizes ∙ a.chunks ∙ sym d.after.p_same;
        mirror = erase-told a y t b d.within d.after w;
      };
      made = λ i. record { blocks = e i; stand = f i };
      beside = record { same_n = d.after.n_same; same_p = d.after.p_same; same_sizes = w.same_sizes; same_names = w.same_names };
    }
