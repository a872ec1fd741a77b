-- Chunks in rising place: chunk c of block b of p chunks is at b × p + c. Assumes nothing.
use Rattle.std.proofs.Common.{◌≡◌, ℕ, zero, suc, ◌+◌, ◌*◌, ◌/◌, ◌%◌, ◌<◌, List, [], ◌∷◌, ◌++◌, length, get_or, sym, refl, ap, ◌∙◌, arith, length-append}
use Rattle.std.proofs.lemmas.List.{ext_get_or, get_or_append_left, get_or-append-add}
use Rattle.flash.specs.declared.chunks.Record.{Record}
use Rattle.flash.specs.declared.chunks.Chunk.{Chunk}
use Rattle.flash.specs.declared.chunks.Chunk.TheVariants.{Blank, Damaged, Holds}
use Rattle.flash.specs.declared.chunks.Look.{Look}
use Rattle.flash.specs.declared.chunks.Look.TheVariants.{Blank as BlankL}
use Rattle.flash.specs.Chunks.{look_of}
use Rattle.flash.specs.Model.{State, tab, blocks_of}
use Rattle.flash.specs.Blocks.{records_of, standing}
use Rattle.flash.proofs.Views.{length-tab, tab-at}
use Rattle.scan.specs.Flat.{flat, looks, looks_of}
use Rattle.scan.proofs.Rows.{row_block, row-chunk, row_is}

-- the records that stand are those of the chunks in rising place
records-append : (xs ys : List Chunk) → records_of (xs ++ ys) ≡ records_of xs ++ records_of ys
records-append [] ys = refl
records-append (Blank ∷ xs) ys = records-append xs ys
records-append (Damaged ∷ xs) ys = records-append xs ys
records-append (Holds r ∷ xs) ys = ap {B = List Record} (λ zs. r ∷ zs) (records-append xs ys)

pub standing-flat : (bs : List (List Chunk)) → records_of (flat bs) ≡ standing bs
standing-flat [] = refl
standing-flat (b ∷ bs) = records-append b (flat bs) ∙ ap {B = List Record} (λ zs. records_of b ++ zs) (standing-flat bs)

-- n blocks of p chunks are n × p chunks
flat-tab : {A : Type 0} (f : ℕ → ℕ → A) (p i n : ℕ) → length (flat (tab (λ b. tab (f b) 0 p) i n)) ≡ n * p
unfolding tab
flat-tab f p i zero = omega arith
flat-tab f p i (suc n) = omega (arith, length-append (tab (f i) 0 p) (flat (tab (λ b. tab (f b) 0 p) (i + 1) n)), length-tab (f i) 0 p, flat-tab f p (i + 1) n)

flat-at : {A : Type 0} (f : ℕ → ℕ → A) (p i n b c : ℕ) (d : A) → b < n → c < p → get_or (flat (tab (λ b. tab (f b) 0 p) i n)) (b * p + c) d ≡ f (i + b) c
unfolding tab
flat-at f p i zero b c d hb hc = absurd (omega arith)
flat-at f p i (suc n) zero c d hb hc =
    ap (λ (z : ℕ). get_or (tab (f i) 0 p ++ flat (tab (λ b. tab (f b) 0 p) (i + 1) n)) z d) (let e : 0 * p + c ≡ c = omega arith in e)
    ∙ get_or_append_left (tab (f i) 0 p) (flat (tab (λ b. tab (f b) 0 p) (i + 1) n)) d c (omega (arith, length-tab (f i) 0 p))
    ∙ tab-at (f i) 0 p c d hc ∙ ap (λ (z : ℕ). f z (0 + c)) (let e : i ≡ i + 0 = omega arith in e) ∙ ap (f (i + 0)) (let e : 0 + c ≡ c = omega arith in e)
flat-at f p i (suc n) (suc b) c d hb hc =
    ap (λ (z : ℕ). get_or (tab (f i) 0 p ++ flat (tab (λ b. tab (f b) 0 p) (i + 1) n)) z d) (let l = length-tab (f i) 0 p in let e : suc b * p + c ≡ length (tab (f i) 0 p) + (b * p + c) = omega arith in e)
    ∙ get_or-append-add (tab (f i) 0 p) (flat (tab (λ b. tab (f b) 0 p) (i + 1) n)) (b * p + c) d
    ∙ flat-at f p (i + 1) n b c d (omega arith) hc ∙ ap (λ (z : ℕ). f z c) (let e : (i + 1) + b ≡ i + suc b = omega arith in e)

pub flat-long : (s : State) → length (flat (blocks_of s)) ≡ s.n * s.p
unfolding blocks_of
flat-long s = flat-tab s.cells s.p 0 s.n

pub flat-cell : (s : State) (b c : ℕ) → b < s.n → c < s.p → get_or (flat (blocks_of s)) (b * s.p + c) Blank ≡ s.cells b c
unfolding blocks_of
flat-cell s b c hb hc = flat-at s.cells s.p 0 s.n b c Blank hb hc ∙ ap (λ (z : ℕ). s.cells z c) (let e : 0 + b ≡ b = omega arith in e)

-- looks
pub looks_long : (cs : List Chunk) → length (looks cs) ≡ length cs
looks_long [] = refl
looks_long (c ∷ cs) = ap suc (looks_long cs)

pub looks-at : (cs : List Chunk) (k : ℕ) → get_or (looks cs) k BlankL ≡ look_of (get_or cs k Blank)
looks-at [] k = refl
looks-at (c ∷ cs) zero = refl
looks-at (c ∷ cs) (suc k) = looks-at cs k

-- a table is that of the chip where every row is what a look at its place tells
pub rows_are : (s : State) (xs : List Look) → length xs ≡ s.n * s.p → ((k : ℕ) → k < s.n * s.p → get_or xs k BlankL ≡ look_of (s.cells (k / s.p) (k % s.p))) → xs ≡ looks_of (blocks_of s)
rows_are s xs l e =
    ext_get_or BlankL xs (looks_of (blocks_of s)) (l ∙ sym (looks_long (flat (blocks_of s)) ∙ flat-long s))
    (λ k h. let m : k < s.n * s.p = omega arith in
    e k m ∙ sym (ap look_of (flat-cell s (k / s.p) (k % s.p) (row_block s.n s.p k m) (row-chunk s.n s.p k m)))
    ∙ ap (λ (z : ℕ). look_of (get_or (flat (blocks_of s)) z Blank)) (row_is s.p k) ∙ sym (looks-at (flat (blocks_of s)) k))
