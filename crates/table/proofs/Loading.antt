-- The load of a block, by the rows of the table. Assumes nothing.
use Rattle.std.proofs.Common.{◌≡◌, ℕ, suc, ◌+◌, ◌*◌, ◌<◌, ◌≤◌, Bool, false, not, ◌&&◌, eqb, List, [], ◌++◌, length, get_or, take, drop, set, Some, None, Option, MatchOption, sym, refl, ap, ◌∙◌, mul-le-mul_right, arith, length-drop, length-take-le}
use Rattle.std.proofs.lemmas.List.{length-map, take-map, drop-map}
use Rattle.std.proofs.Math.ListN.{get_or-map as get_or-image}
use Rattle.flash.specs.declared.chunks.Record.{Record}
use Rattle.flash.specs.declared.chunks.Chunk.{Chunk}
use Rattle.flash.specs.declared.chunks.Chunk.TheVariants.{Blank as blank_c, Damaged as damaged_c, Holds as holds_c}
use Rattle.flash.specs.declared.chunks.Look.{Look}
use Rattle.flash.specs.declared.chunks.Look.TheVariants.{Blank}
use Rattle.flash.specs.Blocks.{records_of, standing}
use Rattle.rules.specs.Lists.{keep}
use Rattle.rules.specs.Reading.{once, wanted}
use Rattle.rules.specs.Places.{makes_load, load_list, load}
use Rattle.tags.specs.Bare.{bare_of, bares, records}
use Rattle.table.specs.declared.loads.BlockOf.{BlockOf}
use Rattle.table.specs.Cuts.{CutOut, CutFrom, loads_in, LoadsRow}
use Rattle.table.specs.Loads.{fresh, holds_one, load_at}
use Rattle.table.specs.Rows.{blocks_of}
use Rattle.table.specs.Steps.{first_of, loads_by}
use Rattle.table.proofs.Onces.{keep-alike, any_append}
use Rattle.table.proofs.Rows.{block_at, standing-rows, standing-others}

loads-is : (all before after : List Record) (r : Record) → loads_by all before after r ≡ makes_load all (before ++ after) r
unfolding makes_load
loads-is all before after r = ap (λ (b : Bool). wanted all r && not b) (sym (any_append (λ s. eqb s.tag.serial r.tag.serial) before after))

holds-alike : (t u : Record → Bool) → ((r : Record) → t r ≡ u r) → (x : Chunk) → holds_one t x ≡ holds_one u x
holds-alike t u e blank_c = refl
holds-alike t u e damaged_c = refl
holds-alike t u e (holds_c r) = e r

get_or-bares : (xs : List Look) (c : ℕ) → bare_of (get_or xs c Blank) ≡ get_or (bares xs) c blank_c
get_or-bares xs c = sym (get_or-image bare_of xs c Blank)

module _ (p b n : ℕ) (looks : List Look) (long : length looks ≡ n * p) (in' : b < n) where
  pub block_fits : b * p + p ≤ length looks
  block_fits = let h : suc b * p ≤ n * p = mul-le-mul_right p (omega arith) in omega (arith, long)

  abbrev blocks : List (List Chunk)
  blocks = blocks_of p n (bares looks)

  as_long : length (bares looks) ≤ n * p
  as_long = omega (arith, length-map looks bare_of, long)

  within-is : bares (take p (drop (b * p) looks)) ≡ get_or blocks b []
  within-is = sym (take-map bare_of p (drop (b * p) looks)) ∙ ap (take p) (sym (drop-map bare_of (b * p) looks)) ∙ sym (block_at p n b (bares looks) in')

  all-is : records looks ≡ standing blocks
  all-is = sym (standing-rows p n (bares looks) as_long)

  others-is : records (take (b * p) looks) ++ records (drop (b * p + p) looks) ≡ standing (set blocks b [])
  others-is =
      ap (λ (z : List Chunk). records_of z ++ records (drop (b * p + p) looks)) (sym (take-map bare_of (b * p) looks))
      ∙ ap (λ (z : List Chunk). records_of (take (b * p) (bares looks)) ++ records_of z) (sym (drop-map bare_of (b * p + p) looks))
      ∙ sym (standing-others p n b (bares looks) in' as_long)

  -- a block that code cut out
  module _ (s : BlockOf) (cut : CutOut looks p b s) where
    abbrev Loads : Record → Bool
    Loads = loads_in s

    makes-is : (r : Record) → Loads r ≡ makes_load (standing blocks) (standing (set blocks b [])) r
    makes-is r =
        loads-is (records s.all.now) (records s.before.now) (records s.after.now) r
        ∙ ap (λ (z : List Record). makes_load z (records s.before.now ++ records s.after.now) r) (ap records cut.all ∙ all-is)
        ∙ ap (λ (z : List Record). makes_load (standing blocks) z r) (ap (λ (z : List Look). records z ++ records s.after.now) cut.before ∙ ap (λ (z : List Look). records (take (b * p) looks) ++ records z) cut.after ∙ others-is)

    within_same : bares s.within.now ≡ get_or blocks b []
    within_same = ap bares cut.within ∙ within-is

    load-by : length (keep Loads (once (records s.within.now))) ≡ load blocks b
    unfolding load load_list
    load-by =
        ap length (keep-alike Loads (makes_load (standing blocks) (standing (set blocks b []))) makes-is (once (records s.within.now)))
        ∙ ap (λ (z : List Chunk). length (keep (makes_load (standing blocks) (standing (set blocks b []))) (once (records_of z)))) within_same

    within-long : length s.within.now ≡ p
    within-long = ap length cut.within ∙ length-take-le p (drop (b * p) looks) (omega (arith, length-drop (b * p) looks, block_fits))

    row_by : (c : ℕ) → first_of Loads (records (take c s.within.now)) (get_or s.within.now c Blank) ≡ load_at blocks b c
    unfolding load_at
    row_by c =
        ap (holds_one (λ (r : Record). Loads r && fresh (records (take c s.within.now)) r)) (get_or-bares s.within.now c ∙ ap (λ (z : List Chunk). get_or z c blank_c) within_same)
        ∙ holds-alike _ _ (λ r. ap (λ (a : Bool). a && fresh (records (take c s.within.now)) r) (makes-is r) ∙ ap (λ (z : List Record). makes_load (standing blocks) (standing (set blocks b [])) r && fresh z r) seen) (get_or (get_or blocks b []) c blank_c)
      where
        seen : records (take c s.within.now) ≡ records_of (take c (get_or blocks b []))
        seen = ap records_of (sym (take-map bare_of c s.within.now) ∙ ap (take c) within_same)

  -- there is such a block, since the table is long enough
  pub load-from : (m : Option BlockOf) (r : ℕ) → CutFrom looks p b m
      → MatchOption m (r ≡ 0) (λ s. r ≡ length (keep (loads_in s) (once (records s.within.now)))) → r ≡ load blocks b
  load-from None r f e = absurd (omega (arith, block_fits, f))
  load-from (Some s) r f e = e ∙ load-by s f

  pub row-from : (m : Option BlockOf) (c : ℕ) (r : Bool) → c < p → CutFrom looks p b m → MatchOption m (r ≡ false) (λ s. LoadsRow s c r) → r ≡ load_at blocks b c
  row-from None c r l f e = absurd (omega (arith, block_fits, f))
  row-from (Some s) c r l f e = e (omega (arith, l, within-long s f)) ∙ row_by s f c
