-- What a chip refuses: where it takes the act nothing but a failure of the supply, which leaves what the rules allow. Assumes nothing.
use Rattle.std.proofs.Common.{◌≡◌, ℕ, suc, ◌<◌, ◌≤◌, false, ◌⊎◌, List, [], ◌∷◌, length, get_or, sym, refl, ap, ◌∙◌, inl, inr, ⊎_elim, arith}
use Rattle.std.proofs.lemmas.Bool.{both_ways}
use Rattle.std.proofs.lemmas.List.{get_or_default}
use Rattle.flash.specs.declared.chunks.Chunk.{Chunk}
use Rattle.flash.specs.declared.chunks.Chunk.TheVariants.{Blank, Damaged, Holds}
use Rattle.flash.specs.declared.chunks.Place.{Place}
use Rattle.flash.specs.declared.chunks.Record.{Record}
use Rattle.flash.specs.declared.faults.Fault.{Fault}
use Rattle.flash.specs.declared.faults.Fault.TheVariants.{Off, NoSuchPlace, NotBlank, SupplyFailed, NoRecord}
use Rattle.flash.specs.declared.faults.Purpose.{Purpose}
use Rattle.flash.specs.declared.faults.Purpose.TheVariants.{Adding as ToAdd, Copying as ToCopy}
use Rattle.flash.specs.Blocks.{put_at}
use Rattle.flash.specs.Faults.{act_of}
use Rattle.flash.specs.Model.{State, blocks_of}
use Rattle.flash.specs.Reads.{Within}
use Rattle.flash.specs.Writes.{Programs, ProgramFails, LeftByErase, NotProgrammed, NotErased, Erases}
use Rattle.flash.proofs.Views.{block-length, cell_at, put_view, fail-view}
use Rattle.rules.specs.Laws.{Left}
use Rattle.rules.specs.Places.{erasing}
use Rattle.rules.specs.Runs.{Takes}
use Rattle.rules.specs.Safety.{Failed}
use Rattle.scan.specs.declared.indexes.Index.{Index}
use Rattle.writing.specs.Writing.{Tells, to_program, act_told, BrokenAt}

-- whatever stands for a chunk that is not there
cell-is : (s : State) (b c : ℕ) (d : Chunk) → b < s.n → c < s.p → get_or (get_or (blocks_of s) b []) c d ≡ s.cells b c
cell-is s b c d h k = get_or_default (get_or (blocks_of s) b []) c d Blank (omega (arith, block-length s b h)) ∙ cell_at s b c h k

-- the chip takes the record at its place
record Taken (s : State) (q : Place) : Type 0 where
  within : Within s q
  blanks : (j : ℕ) → q.chunk ≤ j → j < s.p → get_or (get_or (blocks_of s) q.block []) j Damaged ≡ Blank

taken : (s : State) (u : Purpose) (q : Place) (r : Record) → Takes s.n s.p (blocks_of s) (to_program u q r) → Taken s q
taken s ToAdd q r k = record { within = record { block = k.0; chunk = k.1 }; blanks = k.2 }
taken s ToCopy q r k = record { within = record { block = k.0; chunk = k.1 }; blanks = k.2 }

pub programs : {s : State} {x : Index} (u : Purpose) (q : Place) (r : Record) → Tells s x → Takes s.n s.p (blocks_of s) (to_program u q r) → Programs s q
programs {s} u q r t k =
    let w = taken s u q r k in
    record { ready = t.on; within = w.within; blanks = λ j l h. sym (cell-is s q.block j Damaged w.within.block h) ∙ w.blanks j l h }

told-act : (u : Purpose) (q : Place) (r : Record) → act_of u q ≡ act_told (to_program u q r)
told-act ToAdd q r = refl
told-act ToCopy q r = refl

failed-by : (bs bs' : List (List Chunk)) (u : Purpose) (q : Place) (r : Record) (left : Chunk) → (left ≡ Holds r) ⊎ ((left ≡ Damaged) ⊎ (left ≡ Blank)) → bs' ≡ put_at bs q.block q.chunk left → Failed bs (to_program u q r) bs'
failed-by bs bs' ToAdd q r left l e = (left, l, e)
failed-by bs bs' ToCopy q r left l e = (left, l, e)

failed-put : (s t : State) (u : Purpose) (q : Place) (r : Record) → ProgramFails s q r t → Failed (blocks_of s) (to_program u q r) (blocks_of t)
failed-put s t u q r f =
    let left = t.cells q.block q.chunk in
    failed-by (blocks_of s) (blocks_of t) u q r left
    (⊎_elim
    (λ (e : left ≡ s.cells q.block q.chunk). inr (inr (e ∙ f.taken.blanks q.chunk (omega arith) f.taken.within.chunk)))
    (⊎_elim (λ (e : left ≡ Damaged). inr (inl e)) (λ (e : left ≡ Holds r). inl e))
    f.left)
    (put_view s t q.block q.chunk left f.taken.within.block f.taken.within.chunk f.after)

pub not-programmed : (s t : State) (x : Index) (u : Purpose) (q : Place) (r : Record) (f : Fault) → Tells s x → Takes s.n s.p (blocks_of s) (to_program u q r) → NotProgrammed s u q r f t → BrokenAt s x (to_program u q r ∷ []) f t x
not-programmed s t x u q r Off a k n = absurd (both_ways s.on n.0 a.on)
not-programmed s t x u q r NoSuchPlace a k n =
    let w = (programs u q r a k).within in absurd (⊎_elim (λ (h : s.n ≤ q.block). omega (arith, w.block)) (λ (h : s.p ≤ q.chunk). omega (arith, w.chunk)) n.1)
not-programmed s t x u q r NotBlank a k n = absurd (n.2 (programs u q r a k).blanks)
not-programmed s t x u q r (SupplyFailed act) a k n = record {
  act = to_program u q r;
  names = ap SupplyFailed (n.0 ∙ told-act u q r);
  left = inl (refl, failed-put s t u q r n.1);
  off = n.1.power;
  beside = record { same_n = n.1.after.n_same; same_p = n.1.after.p_same; same_sizes = refl; same_names = refl };
}
not-programmed s t x u q r NoRecord a k n = absurd n

-- chunk by chunk, as a list
left-each : (xs ys : List Chunk) → length ys ≡ length xs → ((c : ℕ) → c < length xs → LeftByErase (get_or xs c Blank) (get_or ys c Blank)) → Left xs ys
left-each [] [] l e = tt
left-each [] (y ∷ ys) l e = absurd (omega arith)
left-each (x ∷ xs) [] l e = absurd (omega arith)
left-each (x ∷ xs) (y ∷ ys) l e = (e 0 (omega arith), left-each xs ys (omega arith) (λ c h. e (suc c) (omega arith)))

failed-erase : (s t : State) (b : ℕ) → Erases LeftByErase false s b t → Failed (blocks_of s) (erasing b) (blocks_of t)
failed-erase s t b f =
    let v = fail-view s t b f.within f.after in
    (v.left, left-each (get_or (blocks_of s) b []) v.left v.long (λ c h. v.each c (omega (arith, block-length s b f.within))), v.after)

pub not-erased : (s t : State) (x : Index) (b : ℕ) (f : Fault) → Tells s x → b < s.n → NotErased s b f t → BrokenAt s x (erasing b ∷ []) f t x
not-erased s t x b Off a h n = absurd (both_ways s.on n.0 a.on)
not-erased s t x b NoSuchPlace a h n = absurd (omega (arith, n.1))
not-erased s t x b NotBlank a h n = absurd n
not-erased s t x b (SupplyFailed act) a h n = record {
  act = erasing b;
  names = ap SupplyFailed n.0;
  left = inl (refl, failed-erase s t b n.1);
  off = n.1.left_on;
  beside = record { same_n = n.1.after.n_same; same_p = n.1.after.p_same; same_sizes = refl; same_names = refl };
}
not-erased s t x b NoRecord a h n = absurd n
