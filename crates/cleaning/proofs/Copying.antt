-- Copying a block's load, chunk by chunk. Assumes nothing.
use Rattle.std.proofs.Common.{◌≡◌, ℕ, suc, ◌+◌, ◌≤◌, ◌<◌, false, true, List, [], ◌∷◌, ◌++◌, Ok, Err, length, get_or, vec_items, sym, refl, ap, ◌∙◌, subst, add-one, arith}
use Rattle.std.proofs.lemmas.List.{length-take}
use Rattle.flash.specs.declared.chunks.Chunk.{Chunk}
use Rattle.flash.specs.declared.chunks.Chunk.TheVariants.{Blank, Holds}
use Rattle.flash.specs.declared.chunks.Place.{Place}
use Rattle.flash.specs.declared.chunks.Record.{Record}
use Rattle.flash.specs.declared.faults.Fault.{Fault}
use Rattle.flash.specs.Blocks.{chunk_at}
use Rattle.flash.specs.Model.{State, blocks_of}
use Rattle.flash.proofs.Views.{block-length}
use Rattle.rules.specs.declared.standings.Standing.TheVariants.{Blank as blank_s, Closed as closed_s}
use Rattle.rules.specs.Places.{Flash, Act, runs, copies, copy_at, copy_place}
use Rattle.rules.specs.Runs.{TakesAll}
use Rattle.rules.proofs.Cleaning.{closed_in}
use Rattle.scan.specs.declared.indexes.Index.{Index}
use Rattle.scan.specs.Indexes.{stands_in}
use Rattle.table.specs.Loads.{load_at}
use Rattle.table.proofs.BareBlocks.{load-by-rows}
use Rattle.writing.specs.Writing.{flash_of, Tells, BrokenAt}
use Rattle.cleaning.specs.Steps.{HeldAt, Counted, PlayedIf, load_copies}
use Rattle.cleaning.proofs.Unclosed.{Keeps, copy_keeps}
use Rattle.cleaning.proofs.Chosen.{chosen_from, none_left, passed, taken, load-holds, held-within}
use Rattle.cleaning.proofs.Playing.{Underway, nothing-yet, all-done, takes-now, breaks-now, goes-on}

-- a chip and its index as the copying of block v begins
module _ (s : State) (x : Index) (v : ℕ) where
  -- the records of block v that are still to be copied, before chunk c
  abbrev pub rest : ℕ → List Record
  rest c = chosen_from (load_at (blocks_of s) v) (get_or (blocks_of s) v []) c

  -- the records of the chunks before c are copied, with n programs, and block v is as it was
  pub record CopiedTo (c n : ℕ) (t : State) (y : Index) : Type 0 where
    pub on : Underway s x (load_copies s x v) (copies (flash_of t y) (rest c)) n 0 t y
    pub keeps : Keeps v (flash_of s x) (flash_of t y)

  -- a closed block is there
  pub is-there : Tells s x → get_or (stands_in x) v blank_s ≡ closed_s → v < s.n
  is-there h cl = (let a = (closed_in (stands_in x) v cl).0 in let e = h.blocks in omega (arith, length-take x.sizes.blocks (vec_items x.standings)))

  pub begun : Tells s x → get_or (stands_in x) v blank_s ≡ closed_s → CopiedTo 0 0 s x
  begun h cl = record { on = nothing-yet h (ap (copies (flash_of s x)) (load-by-rows (blocks_of s) v)); keeps = record { block = refl; closed = cl } }

  module _ (c n : ℕ) (t : State) (y : Index) (h : CopiedTo c n t y) where
    -- with other words for the rest
    same-rest : (rs : List Record) → rest c ≡ rs → Underway s x (load_copies s x v) (copies (flash_of t y) rs) n 0 t y
    same-rest rs e = subst (λ (ks : List Record). Underway s x (load_copies s x v) (copies (flash_of t y) ks) n 0 t y) e h.on

    pub pass : load_at (blocks_of s) v c ≡ false → CopiedTo (c + 1) n t y
    pass e = rw add-one (record { on = same-rest (rest (suc c)) (passed (load_at (blocks_of s) v) (get_or (blocks_of s) v []) c e); keeps = h.keeps })

    pub ended : length (get_or (blocks_of s) v []) ≤ c → Counted s x (load_copies s x v) 0 (Ok n) t y
    ended l = all-done (same-rest [] (none_left (load_at (blocks_of s) v) (get_or (blocks_of s) v []) c l))

    -- the chunk makes the load; what a call of `copy` ensures of its record
    module _ (h0 : Tells s x) (cl : get_or (stands_in x) v blank_s ≡ closed_s) (takes : TakesAll s.n s.p (flash_of s x) (load_copies s x v)) (e : load_at (blocks_of s) v c ≡ true)
        (q : Place) (same : q ≡ record { block = v; chunk = c }) where
      found : (r : Record) × (chunk_at (blocks_of s) v c ≡ Holds r)
      found = load-holds (blocks_of s) v c e

      inside : c < length (get_or (blocks_of s) v [])
      inside = held-within (get_or (blocks_of s) v []) c found.0 found.1

      held : HeldAt t q found.0
      held =
          let a = h.on.all.beside.same_n in
          let b = h.on.all.beside.same_p in
          let d = is-there h0 cl in
          let k = inside in
          subst (λ (p : Place). HeldAt t p found.0) (sym same)
          (record { block = omega arith; chunk = omega (arith, block-length s v d); holds = ap (λ (cs : List Chunk). get_or cs c Blank) h.keeps.block ∙ found.1 })

      abbrev now : List Act
      now = copy_at found.0 (copy_place (flash_of t y))

      abbrev later : List Act
      later = copies (runs (flash_of t y) now) (rest (suc c))

      before : Underway s x (load_copies s x v) (now ++ later) n 0 t y
      before = same-rest (found.0 ∷ rest (suc c)) (taken (load_at (blocks_of s) v) (get_or (blocks_of s) v []) c found.0 inside e found.1)

      pub copied-more : (m : ℕ) (u : State) (z : Index) → ((r : Record) → HeldAt t q r → PlayedIf t y (copy_at r (copy_place (flash_of t y))) 0 (Ok m) u z) → CopiedTo (c + 1) (n + m) u z
      copied-more m u z f =
          let k : Counted t y now 0 (Ok m) u z = f found.0 held h.on.all.tells (takes-now before now later refl takes) in
          let kept : Keeps v (flash_of t y) (flash_of u z) = subst (Keeps v (flash_of t y)) (sym k.0.made) (copy_keeps v (flash_of t y) found.0 h.keeps.closed) in
          rw add-one (record {
            on = subst (λ (g : Flash). Underway s x (load_copies s x v) (copies g (rest (suc c))) (n + m) 0 u z) (sym k.0.made) (goes-on before now later refl (m, 0) k.0 k.1);
            keeps = record { block = kept.block ∙ h.keeps.block; closed = kept.closed };
          })

      pub copied-broken : (k : Fault) (u : State) (z : Index) → ((r : Record) → HeldAt t q r → PlayedIf t y (copy_at r (copy_place (flash_of t y))) 0 (Err k) u z) → BrokenAt s x (load_copies s x v) k u z
      copied-broken k u z f = breaks-now before now later refl (f found.0 held h.on.all.tells (takes-now before now later refl takes))
