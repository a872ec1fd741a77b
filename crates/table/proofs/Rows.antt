-- The blocks of a flat table; and what stands before and after a block. Assumes nothing.
use Rattle.std.proofs.Common.{◌≡◌, ℕ, zero, suc, ◌+◌, ◌*◌, ◌<◌, ◌≤◌, List, [], ◌∷◌, ◌++◌, length, get_or, take, drop, set, sym, refl, ap, ◌∙◌, append_assoc, arith, length-drop, take-append-drop, drop-drop, take-add}
use Rattle.flash.specs.declared.chunks.Record.{Record}
use Rattle.flash.specs.declared.chunks.Chunk.{Chunk}
use Rattle.flash.specs.declared.chunks.Chunk.TheVariants.{Blank, Damaged, Holds}
use Rattle.flash.specs.Blocks.{records_of, standing}
use Rattle.table.specs.Rows.{blocks_of}

-- block b is rows b × p and on
pub block_at : {A : Type 0} (p n b : ℕ) (rows : List A) → b < n → get_or (blocks_of p n rows) b [] ≡ take p (drop (b * p) rows)
block_at p zero b rows l = absurd (omega arith)
block_at {A} p (suc n) zero rows l = ap (λ (k : ℕ). take p (drop k rows)) (let e : 0 ≡ 0 * p = omega arith in e)
block_at {A} p (suc n) (suc b) rows l =
    block_at p n b (drop p rows) (omega arith)
    ∙ ap (take p) (drop-drop (b * p) p rows ∙ ap (λ (k : ℕ). drop k rows) (let e : p + b * p ≡ suc b * p = omega arith in e))

-- the records of blocks laid end to end
pub records_of-append : (xs ys : List Chunk) → records_of (xs ++ ys) ≡ records_of xs ++ records_of ys
records_of-append [] ys = refl
records_of-append (Blank ∷ xs) ys = records_of-append xs ys
records_of-append (Damaged ∷ xs) ys = records_of-append xs ys
records_of-append (Holds r ∷ xs) ys = ap (λ (z : List Record). r ∷ z) (records_of-append xs ys)

module _ (p : ℕ) where
  rest-long : (n : ℕ) (rows : List Chunk) → length rows ≤ suc n * p → length (drop p rows) ≤ n * p
  rest-long n rows h = omega (arith, length-drop p rows)

  pub standing-rows : (n : ℕ) (rows : List Chunk) → length rows ≤ n * p → standing (blocks_of p n rows) ≡ records_of rows
  standing-rows zero [] h = refl
  standing-rows zero (x ∷ rows) h = absurd (omega arith)
  standing-rows (suc n) rows h =
      ap (λ (z : List Record). records_of (take p rows) ++ z) (standing-rows n (drop p rows) (rest-long n rows h))
      ∙ sym (records_of-append (take p rows) (drop p rows))
      ∙ ap records_of (take-append-drop p rows)

  pub standing-others : (n b : ℕ) (rows : List Chunk) → b < n → length rows ≤ n * p
      → standing (set (blocks_of p n rows) b []) ≡ records_of (take (b * p) rows) ++ records_of (drop (b * p + p) rows)
  standing-others zero b rows l h = absurd (omega arith)
  standing-others (suc n) zero rows l h =
      standing-rows n (drop p rows) (rest-long n rows h)
      ∙ ap (λ (k : ℕ). records_of (drop k rows)) (let e : p ≡ 0 * p + p = omega arith in e)
      ∙ ap (λ (k : ℕ). records_of (take k rows) ++ records_of (drop (0 * p + p) rows)) (let e : 0 ≡ 0 * p = omega arith in e)
  standing-others (suc n) (suc b) rows l h =
      ap (λ (z : List Record). records_of (take p rows) ++ z) (standing-others n b (drop p rows) (omega arith) (rest-long n rows h))
      ∙ sym (append_assoc (records_of (take p rows)) (records_of (take (b * p) (drop p rows))) (records_of (drop (b * p + p) (drop p rows))))
      ∙ ap (λ (z : List Record). z ++ records_of (drop (b * p + p) (drop p rows)))
      (sym (records_of-append (take p rows) (take (b * p) (drop p rows))) ∙ ap records_of (sym (take-add p (b * p) rows) ∙ ap (λ (k : ℕ). take k rows) (let e : p + b * p ≡ suc b * p = omega arith in e)))
      ∙ ap (λ (z : List Chunk). records_of (take (suc b * p) rows) ++ records_of z)
      (drop-drop (b * p + p) p rows ∙ ap (λ (k : ℕ). drop k rows) (let e : p + (b * p + p) ≡ suc b * p + p = omega arith in e))
