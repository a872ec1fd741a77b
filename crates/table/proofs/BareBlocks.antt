-- Blocks with the data left out: their records, and their loads. Assumes nothing.
use Rattle.std.proofs.Common.{◌≡◌, ℕ, zero, suc, ◌+◌, ◌*◌, ◌<◌, ◌≤◌, Bool, true, false, not, ◌&&◌, eqb, List, [], ◌∷◌, ◌++◌, map, length, get_or, take, drop, set, sym, refl, ap, ◌∙◌, append_assoc, append-nil, mul-le-mul_right, arith, length-drop, length-take-le, get_or-drop, get_or-take}
use Rattle.std.proofs.lemmas.List.{length-map, take-map, map-append, map-set, get_or-map, get_or_at, get_or_default, same_lists, take_at, length_push}
use Rattle.std.proofs.Math.ListN.{get_or-map as get_or-image}
use Rattle.flash.specs.declared.chunks.Record.{Record}
use Rattle.flash.specs.declared.chunks.Chunk.{Chunk}
use Rattle.flash.specs.declared.chunks.Chunk.TheVariants.{Blank, Damaged, Holds}
use Rattle.flash.specs.declared.chunks.Look.{Look}
use Rattle.flash.specs.declared.chunks.Look.TheVariants.{Blank as blank_l}
use Rattle.flash.specs.Blocks.{records_of, standing}
use Rattle.flash.specs.Chunks.{look_of}
use Rattle.rules.specs.Lists.{keep, cons_if}
use Rattle.rules.specs.Reading.{once}
use Rattle.rules.specs.Places.{makes_load, load_list, load}
use Rattle.tags.specs.Bare.{bare, bare_of, bares, records}
use Rattle.table.specs.Laws.{bare_blocks, BlocksAlike, chosen, chosen_if, LoadByRows, Mirrors, TableMirrors}
use Rattle.table.specs.Loads.{fresh, holds_one, load_at}
use Rattle.table.specs.Rows.{blocks_of}
use Rattle.table.proofs.Bares.{any-map, keep-map, once-map, wants-bare}
use Rattle.table.proofs.Onces.{keep-alike, keep-cons_if, firsts, once-firsts}
use Rattle.table.proofs.Rows.{block_at, standing-rows, records_of-append}

abbrev bare_chunk : Chunk → Chunk
bare_chunk x = bare_of (look_of x)

records-bare : (cs : List Chunk) → records_of (map bare_chunk cs) ≡ map bare (records_of cs)
records-bare [] = refl
records-bare (Blank ∷ cs) = records-bare cs
records-bare (Damaged ∷ cs) = records-bare cs
records-bare (Holds r ∷ cs) = ap (λ (z : List Record). bare r ∷ z) (records-bare cs)

looks-bare : (cs : List Chunk) → records (map look_of cs) ≡ map bare (records_of cs)
looks-bare [] = refl
looks-bare (Blank ∷ cs) = looks-bare cs
looks-bare (Damaged ∷ cs) = looks-bare cs
looks-bare (Holds r ∷ cs) = ap (λ (z : List Record). bare r ∷ z) (looks-bare cs)

pub standing-bare : (bs : List (List Chunk)) → standing (bare_blocks bs) ≡ map bare (standing bs)
standing-bare [] = refl
standing-bare (b ∷ bs) =
    ap (λ (z : List Record). z ++ standing (bare_blocks bs)) (records-bare b)
    ∙ ap (λ (z : List Record). map bare (records_of b) ++ z) (standing-bare bs)
    ∙ sym (map-append bare (records_of b) (standing bs))

makes-alike : (all others : List Record) (r : Record) → makes_load (map bare all) (map bare others) (bare r) ≡ makes_load all others r
unfolding makes_load
makes-alike all others r = (λ i. wants-bare all r i && not (any-map bare (λ s. eqb s.tag.serial r.tag.serial) others i))

module _ (bs : List (List Chunk)) (b : ℕ) where
  abbrev Makes : Record → Bool
  Makes = makes_load (standing bs) (standing (set bs b []))

  makes-bare : (r : Record) → makes_load (standing (bare_blocks bs)) (standing (set (bare_blocks bs) b [])) (bare r) ≡ Makes r
  makes-bare r =
      ap (λ (z : List Record). makes_load z (standing (set (bare_blocks bs) b [])) (bare r)) (standing-bare bs)
      ∙ ap (λ (z : List Record). makes_load (map bare (standing bs)) z (bare r)) (ap standing (sym (map-set (map bare_chunk) bs b [])) ∙ standing-bare (set bs b []))
      ∙ makes-alike (standing bs) (standing (set bs b [])) r

  pub list-bare : load_list (bare_blocks bs) b ≡ map bare (load_list bs b)
  unfolding load_list
  list-bare =
      ap (λ (z : List Record). keep (makes_load (standing (bare_blocks bs)) (standing (set (bare_blocks bs) b []))) (once z)) (ap records_of (get_or-image (map bare_chunk) bs b []) ∙ records-bare (get_or bs b []))
      ∙ ap (keep (makes_load (standing (bare_blocks bs)) (standing (set (bare_blocks bs) b [])))) (once-map (records_of (get_or bs b [])))
      ∙ keep-map bare (makes_load (standing (bare_blocks bs)) (standing (set (bare_blocks bs) b []))) (once (records_of (get_or bs b [])))
      ∙ ap (map bare) (keep-alike (λ r. makes_load (standing (bare_blocks bs)) (standing (set (bare_blocks bs) b [])) (bare r)) Makes makes-bare (once (records_of (get_or bs b []))))

  load-bare : load (bare_blocks bs) b ≡ load bs b
  unfolding load
  load-bare = ap length list-bare ∙ length-map (load_list bs b) bare

  fresh-bare : (seen : List Record) (r : Record) → fresh (map bare seen) (bare r) ≡ fresh seen r
  fresh-bare seen r = ap not (any-map bare (λ s. eqb s.tag.serial r.tag.serial) seen)

  abbrev BareRow : ℕ → Record → Bool
  BareRow c r = makes_load (standing (bare_blocks bs)) (standing (set (bare_blocks bs) b [])) r && fresh (records_of (take c (get_or (bare_blocks bs) b []))) r

  row-bare : (c : ℕ) → load_at (bare_blocks bs) b c ≡ load_at bs b c
  unfolding load_at
  row-bare c =
      ap (holds_one (BareRow c)) (ap (λ (z : List Chunk). get_or z c Blank) (get_or-image (map bare_chunk) bs b []) ∙ get_or-image bare_chunk (get_or bs b []) c Blank)
      ∙ at (get_or (get_or bs b []) c Blank)
    where
      seen : records_of (take c (get_or (bare_blocks bs) b [])) ≡ map bare (records_of (take c (get_or bs b [])))
      seen = ap (λ (z : List Chunk). records_of (take c z)) (get_or-image (map bare_chunk) bs b []) ∙ ap records_of (take-map bare_chunk c (get_or bs b [])) ∙ records-bare (take c (get_or bs b []))

      at : (x : Chunk) → holds_one (BareRow c) (bare_chunk x) ≡ holds_one (λ r. Makes r && fresh (records_of (take c (get_or bs b []))) r) x
      at Blank = refl
      at Damaged = refl
      at (Holds r) = (λ i. makes-bare r i && (ap (λ (z : List Record). fresh z (bare r)) seen ∙ fresh-bare (records_of (take c (get_or bs b []))) r) i)

pub blocks-alike : (bs : List (List Chunk)) → BlocksAlike bs
blocks-alike bs = record { records_same = looks-bare; standing_same = standing-bare bs; list_same = list-bare bs; load_same = load-bare bs; row_same = row-bare bs }

-- the load list, chunk by chunk
module _ (bs : List (List Chunk)) (b : ℕ) where
  keep-if : (t : Record → Bool) (f : Bool) (r : Record) (rs : List Record) → keep t (cons_if f r rs) ≡ chosen_if (t r && f) (Holds r) (keep t rs)
  keep-if t f r rs = keep-cons_if t f r rs ∙ at (t r && f)
    where
      at : (b : Bool) → cons_if b r (keep t rs) ≡ chosen_if b (Holds r) (keep t rs)
      at true = refl
      at false = refl

  row_is : (seen : List Chunk) (x : Chunk) (rest : List Chunk) → get_or bs b [] ≡ seen ++ x ∷ rest
      → load_at bs b (length seen) ≡ holds_one (λ r. Makes bs b r && fresh (records_of seen) r) x
  unfolding load_at
  row_is seen x rest e =
      ap (λ (z : List Chunk). holds_one (λ r. Makes bs b r && fresh (records_of (take (length seen) z)) r) (get_or z (length seen) Blank)) e
      ∙ ap (λ (z : List Chunk). holds_one (λ r. Makes bs b r && fresh (records_of z) r) (get_or (seen ++ x ∷ rest) (length seen) Blank)) (take_at seen (x ∷ rest) (length seen) refl)
      ∙ ap (holds_one (λ r. Makes bs b r && fresh (records_of seen) r)) (get_or_at seen x rest Blank (length seen) refl)

  from_row : (seen rest : List Chunk) (n : ℕ) → n ≡ length seen → get_or bs b [] ≡ seen ++ rest → keep (Makes bs b) (firsts (records_of seen) (records_of rest)) ≡ chosen (load_at bs b) n rest
  from_row seen [] n l e = refl
  from_row seen (x ∷ rest) n l e = at x e (from_row (seen ++ x ∷ []) rest (suc n) longer (e ∙ sym (append_assoc seen (x ∷ []) rest)))
    where
      longer : suc n ≡ length (seen ++ x ∷ [])
      longer = omega (arith, l, length_push seen x)

      here : (y : Chunk) → get_or bs b [] ≡ seen ++ y ∷ rest → holds_one (λ r. Makes bs b r && fresh (records_of seen) r) y ≡ load_at bs b n
      here y d = sym (ap (load_at bs b) l ∙ row_is seen y rest d)

      none : (y : Chunk) → records_of (y ∷ []) ≡ [] → keep (Makes bs b) (firsts (records_of (seen ++ y ∷ [])) (records_of rest)) ≡ chosen (load_at bs b) (suc n) rest → keep (Makes bs b) (firsts (records_of seen) (records_of rest)) ≡ chosen (load_at bs b) (suc n) rest
      none y d ih = ap (λ (z : List Record). keep (Makes bs b) (firsts z (records_of rest))) (sym (append-nil (records_of seen)) ∙ ap (λ (z : List Record). records_of seen ++ z) (sym d) ∙ sym (records_of-append seen (y ∷ []))) ∙ ih

      at : (y : Chunk) → get_or bs b [] ≡ seen ++ y ∷ rest → keep (Makes bs b) (firsts (records_of (seen ++ y ∷ [])) (records_of rest)) ≡ chosen (load_at bs b) (suc n) rest → keep (Makes bs b) (firsts (records_of seen) (records_of (y ∷ rest))) ≡ chosen (load_at bs b) n (y ∷ rest)
      at Blank d ih = none Blank refl ih ∙ ap (λ (f : Bool). chosen_if f Blank (chosen (load_at bs b) (suc n) rest)) (here Blank d)
      at Damaged d ih = none Damaged refl ih ∙ ap (λ (f : Bool). chosen_if f Damaged (chosen (load_at bs b) (suc n) rest)) (here Damaged d)
      at (Holds r) d ih =
          keep-if (Makes bs b) (fresh (records_of seen) r) r (firsts (records_of seen ++ r ∷ []) (records_of rest))
          ∙ ap (λ (z : List Record). chosen_if (Makes bs b r && fresh (records_of seen) r) (Holds r) (keep (Makes bs b) (firsts z (records_of rest)))) (sym (records_of-append seen (Holds r ∷ [])))
          ∙ ap (chosen_if (Makes bs b r && fresh (records_of seen) r) (Holds r)) ih
          ∙ ap (λ (f : Bool). chosen_if f (Holds r) (chosen (load_at bs b) (suc n) rest)) (here (Holds r) d)

pub load-by-rows : LoadByRows
unfolding load_list
load-by-rows bs b = ap (keep (Makes bs b)) (once-firsts (records_of (get_or bs b []))) ∙ from_row bs b [] (get_or bs b []) 0 refl refl

-- a table as its chip is
blocks_long : {A : Type 0} (p n : ℕ) (rows : List A) → length (blocks_of p n rows) ≡ n
blocks_long p zero rows = refl
blocks_long p (suc n) rows = ap suc (blocks_long p n (drop p rows))

module _ (n p : ℕ) (bs : List (List Chunk)) (looks : List Look) (m : Mirrors n p bs looks) where
  one_block : (b : ℕ) → b < n → take p (drop (b * p) (bares looks)) ≡ map bare_chunk (get_or bs b [])
  one_block b l =
      same_lists _ _ (cut-long ∙ sym (length-map (get_or bs b []) bare_chunk ∙ m.block_long b l))
      (λ c d h.
      let k : c < p = omega (arith, h, cut-long) in
      let row : b * p + c < length looks = omega (arith, mul-le-mul_right p succ, m.looks_long) in
      get_or-take p (drop (b * p) (bares looks)) c d k
      ∙ get_or-drop (b * p) (bares looks) c d
      ∙ get_or-map bare_of looks (b * p + c) blank_l d row
      ∙ ap bare_of (m.each b c l k)
      ∙ sym (get_or-map bare_chunk (get_or bs b []) c Blank d (omega (arith, m.block_long b l))))
    where
      succ : suc b ≤ n
      succ = omega (arith, l)

      cut-long : length (take p (drop (b * p) (bares looks))) ≡ p
      cut-long =
          length-take-le p (drop (b * p) (bares looks)) (omega (arith, length-drop (b * p) (bares looks), length-map looks bare_of, m.looks_long, mul-le-mul_right p succ))

  all_blocks : blocks_of p n (bares looks) ≡ bare_blocks bs
  all_blocks =
      same_lists _ _ (blocks_long p n (bares looks) ∙ sym (length-map bs (map bare_chunk) ∙ m.blocks_long))
      (λ b d h.
      let l : b < n = omega (arith, h, blocks_long p n (bares looks)) in
      get_or_default (blocks_of p n (bares looks)) b d [] h
      ∙ block_at p n b (bares looks) l
      ∙ one_block b l
      ∙ sym (get_or-map (map bare_chunk) bs b [] d (omega (arith, m.blocks_long))))

pub table-mirrors : TableMirrors
table-mirrors n p bs looks m =
    let e : blocks_of p n (bares looks) ≡ bare_blocks bs = all_blocks n p bs looks m in
    (e, sym (standing-rows p n (bares looks) (omega (arith, length-map looks bare_of, m.looks_long))) ∙ ap standing e ∙ standing-bare bs)
