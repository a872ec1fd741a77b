-- The records that make a block's load, chunk by chunk. Assumes nothing.
use Rattle.std.proofs.Common.{◌≡◌, ℕ, zero, suc, ◌<◌, ◌≤◌, Bool, true, false, List, [], ◌∷◌, length, get_or, drop, sym, refl, ap, ◌∙◌, inl, inr, arith}
use Rattle.std.proofs.Math.Seq.{drop-cons}
use Rattle.std.proofs.lemmas.List.{drop_all}
use Rattle.std.proofs.lemmas.Bool.{both_ways, cases_lt}
use Rattle.flash.specs.declared.chunks.Record.{Record}
use Rattle.flash.specs.declared.chunks.Chunk.{Chunk}
use Rattle.flash.specs.declared.chunks.Chunk.TheVariants.{Blank, Damaged, Holds}
use Rattle.flash.specs.Blocks.{chunk_at}
use Rattle.table.specs.Laws.{chosen, chosen_if}
use Rattle.table.specs.Loads.{load_at, holds_one}

-- the records of the chosen chunks from chunk c on
abbrev pub chosen_from : (ℕ → Bool) → List Chunk → ℕ → List Record
chosen_from t cs c = chosen t c (drop c cs)

module _ (t : ℕ → Bool) (cs : List Chunk) where
  pub none_left : (c : ℕ) → length cs ≤ c → chosen_from t cs c ≡ []
  none_left c l = ap (chosen t c) (drop_all c cs l)

  next-chosen : (c : ℕ) → c < length cs → chosen_from t cs c ≡ chosen_if (t c) (get_or cs c Blank) (chosen_from t cs (suc c))
  next-chosen c l = ap (chosen t c) (drop-cons cs c Blank l)

  -- a chunk that is not chosen
  pub passed : (c : ℕ) → t c ≡ false → chosen_from t cs c ≡ chosen_from t cs (suc c)
  passed c e = elim (cases_lt c (length cs)) [
    | inl l ↦ next-chosen c l ∙ ap (λ (b : Bool). chosen_if b (get_or cs c Blank) (chosen_from t cs (suc c))) e
    | inr l ↦ none_left c l ∙ sym (none_left (suc c) (omega arith))
  ]

  -- a chunk that is chosen
  pub taken : (c : ℕ) (r : Record) → c < length cs → t c ≡ true → get_or cs c Blank ≡ Holds r → chosen_from t cs c ≡ r ∷ chosen_from t cs (suc c)
  taken c r l e h =
      next-chosen c l
      ∙ ap (λ (b : Bool). chosen_if b (get_or cs c Blank) (chosen_from t cs (suc c))) e
      ∙ ap (λ (k : Chunk). chosen_if true k (chosen_from t cs (suc c))) h

-- a chunk that makes the load holds a record
module _ (p : Record → Bool) where
  holds-some : (k : Chunk) → holds_one p k ≡ true → (r : Record) × (k ≡ Holds r)
  holds-some Blank e = absurd (both_ways false refl e)
  holds-some Damaged e = absurd (both_ways false refl e)
  holds-some (Holds r) e = (r, refl)

pub load-holds : (bs : List (List Chunk)) (b c : ℕ) → load_at bs b c ≡ true → (r : Record) × (chunk_at bs b c ≡ Holds r)
unfolding load_at
load-holds bs b c e = holds-some _ (chunk_at bs b c) e

pub held-within : (cs : List Chunk) (c : ℕ) (r : Record) → get_or cs c Blank ≡ Holds r → c < length cs
held-within [] c r e = absurd (let z : ◌≡◌ {A = ℕ} 0 1 = cc in omega arith)
held-within (x ∷ cs) zero r e = omega arith
held-within (x ∷ cs) (suc c) r e = omega (arith, held-within cs c r e)
