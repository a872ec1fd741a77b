-- What the changes of the rows are to the chip. Assumes nothing.
use Rattle.std.proofs.Common.{◌≡◌, ℕ, ◌+◌, ◌-◌, ◌*◌, ◌<◌, ◌≤◌, Bool, true, false, cond, not, List, length, get_or, take, drop, set, vec_items, Ok, Err, Result, MatchResult, sym, refl, ap, ◌∙◌, subst, rules, inl, inr, ⊎_elim, arith}
use Rattle.std.proofs.lemmas.List.{places, get_or-set_same, get_or-set_other, length-take-le, length-drop}
use Rattle.std.proofs.lemmas.Nat.{rows, same_from_place}
use Rattle.std.proofs.lemmas.Bool.{cases_lt}
use Rattle.std.specs.declared.ops.Range.{Range}
use Rattle.flash.specs.declared.chunks.Chunk.{Chunk}
use Rattle.flash.specs.declared.chunks.Chunk.TheVariants.{Blank, Damaged, Holds}
use Rattle.flash.specs.declared.chunks.Record.{Record}
use Rattle.flash.specs.declared.chunks.Place.{Place}
use Rattle.flash.specs.declared.chunks.Sizes.{Sizes}
use Rattle.flash.specs.declared.faults.Purpose.{Purpose}
use Rattle.flash.specs.declared.faults.Act.{Act}
use Rattle.flash.specs.declared.faults.Act.TheVariants.{Erasing}
use Rattle.flash.specs.declared.faults.Fault.{Fault}
use Rattle.flash.specs.declared.faults.Fault.TheVariants.{SupplyFailed}
use Rattle.flash.specs.Faults.{act_of}
use Rattle.flash.specs.Writes.{BlankFrom, Put, BlockChanged, IsBlank, LeftByErase, LeftByProgram, Erased, NotErased, Programmed, NotProgrammed}
use Rattle.bench.specs.declared.benches.BenchChip.{BenchChip}
use Rattle.bench.specs.declared.plans.Plan.{Plan}
use Rattle.bench.specs.Plans.{bit, outcome}
use Rattle.bench.specs.Benches.{cell_at, state_of}
use Rattle.bench.specs.Acts.{due, left_in, Acted, Remade, ProgramActs, EraseActs}
use Rattle.bench.specs.Rows.{AllBlank, AreRows, Counted}

-- the rows of a block made anew are a block changed
block-put : (P : Chunk → Chunk → Type 0) (f : ℕ → Chunk → Chunk) (s t : BenchChip) (b : ℕ) → t.sizes ≡ s.sizes
    → Remade f s.sizes.chunks b s.sizes.chunks (vec_items s.rows) (vec_items t.rows) → ((j : ℕ) (x : Chunk) → P x (f j x)) → BlockChanged P (state_of s) b (state_of t)
block-put P f s t b e m r =
    let p = s.sizes.chunks in
    let at : (k j : ℕ) → (state_of t).cells k j ≡ cell_at (vec_items t.rows) p k j
    = λ k j. ap (λ (z : Sizes). cell_at (vec_items t.rows) z.chunks k j) e in
    record {
      n_same = ap (λ (z : Sizes). z.blocks) e;
      p_same = ap (λ (z : Sizes). z.chunks) e;
      here = λ j h. let Q : Chunk → Type 0 = λ y. P ((state_of s).cells b j) y in
          subst Q (sym (at b j ∙ m.here j h)) (r j ((state_of s).cells b j));
      there = λ k j hk hj ne. at k j ∙ ⊎_elim
          (λ (x : k < b). m.there (k * p + j) (inl (grind (arith, rows))))
          (λ (x : b ≤ k). m.there (k * p + j) (inr (grind (arith, rows))))
          (cases_lt k b);
    }

-- what the plan leaves is what the rules allow
allowed : (takes damages : Bool) (old new : Chunk) → LeftByProgram old new (cond takes new (cond damages Damaged old))
allowed true damages old new = inr (inr refl)
allowed false true old new = inr (inl refl)
allowed false false old new = inl refl

left-allowed : (q : Plan) (c : ℕ) (old new : Chunk) → LeftByProgram old new (outcome q c old new)
left-allowed q c old new = allowed (bit q.takes c) (bit q.damages c) old new

-- the rest of a block, as rows and as chunks
rest_at : (s : BenchChip) (q : Place) (r : Range ℕ) (k : ℕ) (zs : List Chunk) → AreRows s q r → zs ≡ vec_items s.rows → k < r.end - r.start → get_or (take (r.end - r.start) (drop r.start zs)) k Blank ≡ (state_of s).cells q.block (q.chunk + k)
rest_at s q r k zs w e h =
    let n : r.start + k ≡ q.block * s.sizes.chunks + (q.chunk + k) = omega (arith, w.start_is) in
    search (rules, places) ∙ (λ j. get_or (e j) (n j) Blank)

rest-length : (s : BenchChip) (q : Place) (r : Range ℕ) (zs : List Chunk) → AreRows s q r → zs ≡ vec_items s.rows → length (take (r.end - r.start) (drop r.start zs)) ≡ s.sizes.chunks - q.chunk
rest-length s q r zs w e = length-take-le (r.end - r.start) (drop r.start zs) (omega (arith, length-drop r.start zs, ap length e, w.block_fits, w.end_is, s.rows.ok.0)) ∙ omega (arith, w.end_is)

pub blank-rest : (s : BenchChip) (q : Place) (r : Range ℕ) (zs : List Chunk) → AreRows s q r → zs ≡ vec_items s.rows → AllBlank (take (r.end - r.start) (drop r.start zs)) → BlankFrom (state_of s) q
blank-rest s q r zs w e a k l h =
    let j = k - q.chunk in
    let n : k ≡ q.chunk + j = omega arith in
    ap (λ (z : ℕ). (state_of s).cells q.block z) n ∙ sym (rest_at s q r j zs w e (omega (arith, w.end_is))) ∙ a j (omega (arith, rest-length s q r zs w e))

pub rest-blank : (s : BenchChip) (q : Place) (r : Range ℕ) (zs : List Chunk) → AreRows s q r → zs ≡ vec_items s.rows → BlankFrom (state_of s) q → AllBlank (take (r.end - r.start) (drop r.start zs))
rest-blank s q r zs w e a k h =
    let l = rest-length s q r zs w e in
    rest_at s q r k zs w e (omega (arith, w.end_is)) ∙ a (q.chunk + k) (omega arith) (omega arith)

-- what an act answers: it fails where it is due
abbrev pub Told : BenchChip → Act → Result (Unit {0}) Fault → Type 0
Told s a r = MatchResult r (λ _. due s ≡ false) (λ f. (due s ≡ true) × (f ≡ SupplyFailed a))

-- an erase, done and failed
pub erased : (s m t : BenchChip) (b : ℕ) (r : Result (Unit {0}) Fault) → s.on ≡ true → b < s.sizes.blocks → due m ≡ due s → Told m (Erasing b) r → EraseActs s b t → Erased (state_of s) b r (state_of t)
erased s m t b (Ok u) on h e d a = record {
  ready = on;
  within = h;
  left_on = a.acted.power_is ∙ ap not (sym e ∙ d);
  after = block-put IsBlank (λ j x. left_in s j x Blank) s t b a.acted.sizes_stay a.rows_are (λ j x. ap (λ (z : Bool). cond z (outcome s.plan j x Blank) Blank) (sym e ∙ d));
}
erased s m t b (Err f) on h e d a =
    let P : Fault → Type 0 = λ x. NotErased (state_of s) b x (state_of t) in
    subst P (sym d.1) (
      refl,
      record {
        ready = on;
        within = h;
        left_on = a.acted.power_is ∙ ap not (sym e ∙ d.0);
        after = block-put LeftByErase (λ j x. left_in s j x Blank) s t b a.acted.sizes_stay a.rows_are
            (λ j x. let Q : Bool → Type 0 = λ z. LeftByErase x (cond z (outcome s.plan j x Blank) Blank) in subst Q (sym d.0 ∙ e) (left-allowed s.plan j x Blank));
      },
    )

-- a program changes the row of its place; in m that is done, and t has counted it
pub program-acts : (s m t : BenchChip) (q : Place) (r : Range ℕ) (c : Record) (v : Chunk) → AreRows s q r → BlankFrom (state_of s) q → v ≡ left_in s q.chunk Blank (Holds c)
    → vec_items m.rows ≡ set (vec_items s.rows) r.start v → Counted m t → Acted s t → ProgramActs s q c t
program-acts s m t q r c v w b e x a h =
    let old : Blank ≡ cell_at (vec_items s.rows) s.sizes.chunks q.block q.chunk = sym (b q.chunk (omega arith) w.within.chunk) in
    record { acted = h; rows_are = ap vec_items a.rows_stay ∙ x ∙ (λ j. set (vec_items s.rows) (w.start_is j) ((e ∙ ap (λ (z : Chunk). left_in s q.chunk z (Holds c)) old) j)) }

-- a program, done and failed
program-puts : (s t : BenchChip) (q : Place) (i : Range ℕ) (r : Record) → AreRows s q i → ProgramActs s q r t
    → Put (state_of s) q.block q.chunk (left_in s q.chunk ((state_of s).cells q.block q.chunk) (Holds r)) (state_of t)
program-puts s t q i r w a =
    let p = s.sizes.chunks in
    let n = q.block * p + q.chunk in
    let v = left_in s q.chunk ((state_of s).cells q.block q.chunk) (Holds r) in
    let e = a.acted.sizes_stay in
    let at : (k j : ℕ) → (state_of t).cells k j ≡ cell_at (set (vec_items s.rows) n v) p k j
    = λ k j. (λ h. cell_at (a.rows_are h) (e h).chunks k j) in
    record {
      n_same = ap (λ (z : Sizes). z.blocks) e;
      p_same = ap (λ (z : Sizes). z.chunks) e;
      here = at q.block q.chunk ∙ get_or-set_same (vec_items s.rows) n v Blank (omega (arith, w.start_is, w.end_is, w.block_fits, w.within.chunk, s.rows.ok.0));
      there = λ k j hk hj d. at k j ∙ get_or-set_other (vec_items s.rows) n (k * p + j) v Blank
          (λ g. let u = same_from_place k j q.block q.chunk p hj w.within.chunk g in ⊎_elim (λ x. x u.0) (λ x. x u.1) d);
    }

pub programmed : (s t : BenchChip) (u : Purpose) (q : Place) (i : Range ℕ) (c : Record) (e : Act) (r : Result (Unit {0}) Fault) → AreRows s q i → BlankFrom (state_of s) q → e ≡ act_of u q → Told s e r
    → ProgramActs s q c t → Programmed (state_of s) u q c r (state_of t)
programmed s t u q i c e (Ok v) w b g d a = record {
  taken = record { ready = w.ready; within = w.within; blanks = b };
  power = a.acted.power_is ∙ ap not d;
  after = let P : Bool → Type 0 = λ z. Put (state_of s) q.block q.chunk (cond z (outcome s.plan q.chunk ((state_of s).cells q.block q.chunk) (Holds c)) (Holds c)) (state_of t) in
      subst P d (program-puts s t q i c w a);
}
programmed s t u q i c e (Err f) w b g d a =
    let m = program-puts s t q i c w a in
    let old = (state_of s).cells q.block q.chunk in
    let is : (state_of t).cells q.block q.chunk ≡ outcome s.plan q.chunk old (Holds c)
    = m.here ∙ ap (λ (z : Bool). cond z (outcome s.plan q.chunk old (Holds c)) (Holds c)) d.0 in
    let L : Chunk → Type 0 = LeftByProgram old (Holds c) in
    let P : Fault → Type 0 = λ x. NotProgrammed (state_of s) u q c x (state_of t) in
    subst P (sym d.1) (
      g,
      record {
        taken = record { ready = w.ready; within = w.within; blanks = b };
        power = a.acted.power_is ∙ ap not d.0;
        left = subst L (sym is) (left-allowed s.plan q.chunk old (Holds c));
        after = record { n_same = m.n_same; p_same = m.p_same; here = refl; there = m.there };
      },
    )
