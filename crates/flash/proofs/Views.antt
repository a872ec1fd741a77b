-- The list of blocks of a chip, chunk by chunk, and after each change. Assumes nothing.
use Rattle.std.proofs.Common.{◌≡◌, ℕ, zero, suc, ◌+◌, ◌<◌, ◌≢◌, List, [], ◌∷◌, length, get_or, set, sym, refl, ap, ◌∙◌, subst, inl, inr, ⊎_elim, arith}
use Rattle.std.proofs.lemmas.List.{ext_get_or, get_or-set_same, get_or-set_other, length-set}
use Rattle.std.proofs.lemmas.Bool.{cases_eq}
use Rattle.flash.specs.declared.chunks.Chunk.{Chunk}
use Rattle.flash.specs.declared.chunks.Chunk.TheVariants.{Blank}
use Rattle.flash.specs.Model.{State, tab, blocks_of}
use Rattle.flash.specs.Blocks.{chunk_at, put_at, erase_at, all_blank}
use Rattle.flash.specs.Writes.{Put, BlockChanged, IsBlank, LeftByErase}
use Rattle.flash.specs.Laws.{LeftBlock}

pub length-tab : {A : Type 0} (f : ℕ → A) (i k : ℕ) → length (tab f i k) ≡ k
unfolding tab
length-tab f i zero = refl
length-tab f i (suc k) = ap suc (length-tab f (i + 1) k)

pub tab-at : {A : Type 0} (f : ℕ → A) (i k j : ℕ) (d : A) → j < k → get_or (tab f i k) j d ≡ f (i + j)
unfolding tab
tab-at f i zero j d h = absurd (omega arith)
tab-at f i (suc k) zero d h = ap f (let e : i ≡ i + 0 = omega arith in e)
tab-at f i (suc k) (suc j) d h = tab-at f (i + 1) k j d (omega arith) ∙ ap f (let e : (i + 1) + j ≡ i + suc j = omega arith in e)

-- as many blocks as the chip has, each with as many chunks
pub blocks-count : (s : State) → length (blocks_of s) ≡ s.n
unfolding blocks_of
blocks-count s = length-tab (λ b. tab (λ c. s.cells b c) 0 s.p) 0 s.n

pub block_at : (s : State) (b : ℕ) → b < s.n → get_or (blocks_of s) b [] ≡ tab (λ c. s.cells b c) 0 s.p
unfolding blocks_of
block_at s b h = tab-at (λ b. tab (λ c. s.cells b c) 0 s.p) 0 s.n b [] h ∙ ap (λ (x : ℕ). tab (λ c. s.cells x c) 0 s.p) (let e : 0 + b ≡ b = omega arith in e)

pub block-length : (s : State) (b : ℕ) → b < s.n → length (get_or (blocks_of s) b []) ≡ s.p
block-length s b h = ap length (block_at s b h) ∙ length-tab (λ c. s.cells b c) 0 s.p

pub cell_at : (s : State) (b c : ℕ) → b < s.n → c < s.p → chunk_at (blocks_of s) b c ≡ s.cells b c
cell_at s b c h k = ap (λ (xs : List Chunk). get_or xs c Blank) (block_at s b h) ∙ tab-at (λ c. s.cells b c) 0 s.p c Blank k ∙ ap (λ (x : ℕ). s.cells b x) (let e : 0 + c ≡ c = omega arith in e)

-- lists of blocks are equal that have equal sizes and equal chunks
pub same_blocks : (xs ys : List (List Chunk)) → length xs ≡ length ys → ((b : ℕ) → b < length xs → length (get_or xs b []) ≡ length (get_or ys b []))
    → ((b c : ℕ) → b < length xs → c < length (get_or xs b []) → chunk_at xs b c ≡ chunk_at ys b c) → xs ≡ ys
same_blocks xs ys l m e = ext_get_or [] xs ys l (λ b h. ext_get_or Blank (get_or xs b []) (get_or ys b []) (m b h) (λ c k. e b c h k))

-- one chunk put
pub put_view : (s t : State) (b c : ℕ) (v : Chunk) → b < s.n → c < s.p → Put s b c v t → blocks_of t ≡ put_at (blocks_of s) b c v
put_view s t b c v hb hc q =
    let en = q.n_same in
    let ep = q.p_same in
    let lt = blocks-count t in
    let ls = blocks-count s in
    let lset = length-set (blocks_of s) b (set (get_or (blocks_of s) b []) c v) in
    let hbs : b < length (blocks_of s) = omega arith in
    let here-block : get_or (put_at (blocks_of s) b c v) b [] ≡ set (get_or (blocks_of s) b []) c v = get_or-set_same (blocks_of s) b (set (get_or (blocks_of s) b []) c v) [] hbs in
    same_blocks (blocks_of t) (put_at (blocks_of s) b c v) (omega arith)
    (λ k h. let kt : k < t.n = omega arith in let ks : k < s.n = omega arith in
    block-length t k kt ∙ ep ∙ sym (⊎_elim
    (λ (x : k ≡ b). ap (λ (z : ℕ). length (get_or (put_at (blocks_of s) b c v) z [])) x ∙ ap length here-block ∙ length-set (get_or (blocks_of s) b []) c v ∙ block-length s b hb)
    (λ (x : k ≢ b). ap length (get_or-set_other (blocks_of s) b k (set (get_or (blocks_of s) b []) c v) [] x) ∙ block-length s k ks)
    (cases_eq k b)))
    (λ k j h g. let kt : k < t.n = omega arith in let ks : k < s.n = omega arith in
    let bl = block-length t k kt in let jt : j < t.p = omega arith in let js : j < s.p = omega arith in
    cell_at t k j kt jt ∙ ⊎_elim
    (λ (x : k ≡ b). ⊎_elim
    (λ (y : j ≡ c). ap (λ (z : ℕ). t.cells z j) x ∙ ap (λ (z : ℕ). t.cells b z) y ∙ q.here
    ∙ sym (ap (λ (z : ℕ). chunk_at (put_at (blocks_of s) b c v) z j) x ∙ ap (λ (z : ℕ). chunk_at (put_at (blocks_of s) b c v) b z) y ∙ ap (λ (xs : List Chunk). get_or xs c Blank) here-block
    ∙ (let w = block-length s b hb in let hcs : c < length (get_or (blocks_of s) b []) = omega arith in get_or-set_same (get_or (blocks_of s) b []) c v Blank hcs)))
    (λ (y : j ≢ c). q.there k j ks js (inr y) ∙ sym (cell_at s k j ks js) ∙ ap (λ (z : ℕ). chunk_at (blocks_of s) z j) x
    ∙ sym (ap (λ (z : ℕ). chunk_at (put_at (blocks_of s) b c v) z j) x ∙ ap (λ (xs : List Chunk). get_or xs j Blank) here-block ∙ get_or-set_other (get_or (blocks_of s) b []) c j v Blank y))
    (cases_eq j c))
    (λ (x : k ≢ b). q.there k j ks js (inl x) ∙ sym (cell_at s k j ks js) ∙ sym (ap (λ (xs : List Chunk). get_or xs j Blank) (get_or-set_other (blocks_of s) b k (set (get_or (blocks_of s) b []) c v) [] x)))
    (cases_eq k b))

-- one block changed: the list has a new block there, of which P holds chunk by chunk
pub block_view : (P : Chunk → Chunk → Type 0) (s t : State) (b : ℕ) → b < s.n → BlockChanged P s b t → blocks_of t ≡ set (blocks_of s) b (get_or (blocks_of t) b [])
block_view P s t b hb q =
    let en = q.n_same in
    let ep = q.p_same in
    let lt = blocks-count t in
    let ls = blocks-count s in
    let new = get_or (blocks_of t) b [] in
    let lset = length-set (blocks_of s) b new in
    let hbs : b < length (blocks_of s) = omega arith in
    let here-block : get_or (set (blocks_of s) b new) b [] ≡ new = get_or-set_same (blocks_of s) b new [] hbs in
    same_blocks (blocks_of t) (set (blocks_of s) b new) (omega arith)
    (λ k h. let kt : k < t.n = omega arith in let ks : k < s.n = omega arith in
    ⊎_elim
    (λ (x : k ≡ b). ap (λ (z : ℕ). length (get_or (blocks_of t) z [])) x ∙ sym (ap (λ (z : ℕ). length (get_or (set (blocks_of s) b new) z [])) x ∙ ap length here-block))
    (λ (x : k ≢ b). block-length t k kt ∙ ep ∙ sym (ap length (get_or-set_other (blocks_of s) b k new [] x) ∙ block-length s k ks))
    (cases_eq k b))
    (λ k j h g. let kt : k < t.n = omega arith in let ks : k < s.n = omega arith in
    let bl = block-length t k kt in let jt : j < t.p = omega arith in let js : j < s.p = omega arith in
    ⊎_elim
    (λ (x : k ≡ b). ap (λ (z : ℕ). chunk_at (blocks_of t) z j) x ∙ sym (ap (λ (z : ℕ). chunk_at (set (blocks_of s) b new) z j) x ∙ ap (λ (xs : List Chunk). get_or xs j Blank) here-block))
    (λ (x : k ≢ b). cell_at t k j kt jt ∙ q.there k j ks js x ∙ sym (cell_at s k j ks js) ∙ sym (ap (λ (xs : List Chunk). get_or xs j Blank) (get_or-set_other (blocks_of s) b k new [] x)))
    (cases_eq k b))

length-blank : (xs : List Chunk) → length (all_blank xs) ≡ length xs
length-blank [] = refl
length-blank (x ∷ xs) = ap suc (length-blank xs)

blank-at : (xs : List Chunk) (c : ℕ) → get_or (all_blank xs) c Blank ≡ Blank
blank-at [] c = refl
blank-at (x ∷ xs) zero = refl
blank-at (x ∷ xs) (suc c) = blank-at xs c

-- a block erased
pub erase-view : (s t : State) (b : ℕ) → b < s.n → BlockChanged IsBlank s b t → blocks_of t ≡ erase_at (blocks_of s) b
erase-view s t b hb q =
    let en = q.n_same in
    let ep = q.p_same in
    let bt : b < t.n = omega arith in
    let lt = block-length t b bt in
    let ls = block-length s b hb in
    let la = length-blank (get_or (blocks_of s) b []) in
    let new : get_or (blocks_of t) b [] ≡ all_blank (get_or (blocks_of s) b [])
    = ext_get_or Blank (get_or (blocks_of t) b []) (all_blank (get_or (blocks_of s) b [])) (omega arith)
    (λ c h. let ct : c < t.p = omega arith in let cs : c < s.p = omega arith in cell_at t b c bt ct ∙ q.here c cs ∙ sym (blank-at (get_or (blocks_of s) b []) c)) in
    block_view IsBlank s t b hb q ∙ ap (λ (xs : List Chunk). set (blocks_of s) b xs) new

-- a block whose erase failed
pub fail-view : (s t : State) (b : ℕ) → b < s.n → BlockChanged LeftByErase s b t → LeftBlock s b t
fail-view s t b hb q =
    let en = q.n_same in
    let ep = q.p_same in
    let bt : b < t.n = omega arith in
    let ls = block-length s b hb in
    record {
      left = get_or (blocks_of t) b [];
      long = block-length t b bt ∙ ep ∙ sym (block-length s b hb);
      each = λ c h. let ct : c < t.p = omega arith in
          let P : Chunk → Type 0 = λ x. LeftByErase x (chunk_at (blocks_of t) b c) in
          let Q : Chunk → Type 0 = λ x. LeftByErase (s.cells b c) x in
          subst P (sym (cell_at s b c hb h)) (subst Q (sym (cell_at t b c bt ct)) (q.here c h));
      after = block_view LeftByErase s t b hb q;
    }
