-- What an index that knows its chip tells: a table to read from, whose records keep the rules. Assumes nothing.
use Rattle.std.proofs.Common.{◌≡◌, ℕ, ◌+◌, ◌*◌, ◌^◌, ◌<◌, ◌≤◌, true, false, eqb, List, [], ◌∷◌, map, length, Some, None, Option, refl, ap, ◌∙◌, subst, inl, inr, arith}
use Rattle.std.proofs.lemmas.Bool.{both_ways, and_parts, eqb-true}
use Rattle.std.proofs.lemmas.Bool.Decides.{nat_tests}
use Rattle.std.proofs.lemmas.Grind.{common_steps}
use Rattle.std.specs.Option.{option_map}
use Rattle.flash.specs.declared.chunks.Record.{Record}
use Rattle.flash.specs.Blocks.{standing}
use Rattle.flash.specs.Chunks.{Whole}
use Rattle.flash.specs.Model.{State, blocks_of, view_of}
use Rattle.flash.specs.Reads.{Sized}
use Rattle.flash.proofs.Views.{blocks-count, block-length}
use Rattle.rules.specs.declared.kinds.Kind.{Kind}
use Rattle.rules.specs.declared.kinds.Kind.TheVariants.{Data as data_k, Header as header_k, CutHeader as cut_k, Marker as marker_k, Other as other_k}
use Rattle.rules.specs.Calls.{objects, rows as rows_of}
use Rattle.rules.specs.Lists.{Among, within}
use Rattle.rules.specs.Records.{kind, kind_by, rules_by, keeps_rules}
use Rattle.rules.specs.Reading.{File, files, size}
use Rattle.rules.specs.Runs.{Shaped}
use Rattle.rules.proofs.Keeping.{Good}
use Rattle.rules.proofs.Accepts.{mount-good}
use Rattle.rules.proofs.Checks.{file-rule}
use Rattle.tags.specs.Bare.{bare, records}
use Rattle.reading.specs.Sizes.{length_of, size_of}
use Rattle.table.proofs.Alikes.{bare-reads-alike, sizes-alike}
use Rattle.questions.specs.Lists.{narrowed, table_rows}
use Rattle.questions.specs.Reads.{Readable}
use Rattle.scan.specs.Indexes.{looks_in, Knows}
use Rattle.scan.specs.Mounts.{whole_all}
use Rattle.scan.specs.declared.indexes.Index.{Index}
use Rattle.questions.proofs.FileBytes.{size-up}
use Rattle.scan.proofs.Flat.{flat-cell}
use Rattle.questions.proofs.Listing.{rows-known}
use Rattle.scan.proofs.Recorded.{stands-in-row, table-records}

-- a record that keeps the rules has numbers of 32 bits
first_fits : (f : ℕ) → (kind_by f ≡ other_k → ⊥) → f < 2 ^ 32
unfolding kind_by
first_fits f known = grind (arith, nat_tests, common_steps)

in-range : (low high k : ℕ) → within low high k ≡ true → k ≤ high
in-range low high k e = grind (arith, nat_tests, common_steps)

ruled-by : (r : Record) (k : Kind) → rules_by r k ≡ true → (k ≡ other_k → ⊥) × (r.tag.second < 2 ^ 32) × (r.tag.third ≤ 2048)
ruled-by r data_k e = (λ q. cc, grind (arith, nat_tests, common_steps), grind (arith, nat_tests, common_steps))
ruled-by r header_k e = (λ q. cc, grind (arith, nat_tests, common_steps), grind (arith, nat_tests, common_steps))
ruled-by r cut_k e = (λ q. cc, grind (arith, nat_tests, common_steps), grind (arith, nat_tests, common_steps))
ruled-by r marker_k e = (λ q. cc, grind (arith, nat_tests, common_steps), grind (arith, nat_tests, common_steps))
ruled-by r other_k e = absurd (both_ways false refl e)

kept_whole : (r : Record) → keeps_rules r ≡ true → length r.bytes ≡ 2048 → Whole r
unfolding keeps_rules kind
kept_whole r e l =
    let a = and_parts (within 1 4294967295 r.tag.serial) _ e in
    let q = ruled-by r (kind_by r.tag.first) a.1 in
    record { first = first_fits r.tag.first q.0; second = q.1; third = omega (arith, q.2); serial = omega (arith, in-range 1 4294967295 r.tag.serial a.0); bytes = l }

whole_each : (rs : List Record) → whole_all rs ≡ true → (r : Record) → Among r rs → length r.bytes ≡ 2048
whole_each [] e r a = absurd a
whole_each (x ∷ xs) e r (inl q) = subst (λ (z : Record). length z.bytes ≡ 2048) q (eqb-true _ _ (and_parts (eqb (length x.bytes) 2048) _ e).0)
whole_each (x ∷ xs) e r (inr a) = whole_each xs (and_parts (eqb (length x.bytes) 2048) _ e).1 r a

-- a number of 32 bits stays as it is
narrow-same : (n : ℕ) → n < 2 ^ 32 → narrowed n ≡ n
narrow-same n h = omega arith

module _ (s : State) (x : Index) (f : Knows (view_of s) x) where
  abbrev rs : List Record
  rs = standing (blocks_of s)

  abbrev bare-rs : List Record
  bare-rs = records (looks_in x)

  sized : Sized s x.sizes
  sized = record { blocks = f.blocks; chunks = f.chunks }

  shaped : Shaped 2048 s.n s.p (blocks_of s)
  shaped = record { blocks' = blocks-count s; chunks = block-length s; bytes' = whole_each rs f.whole }

  pub good : Good 2048 s.n s.p (blocks_of s)
  good = mount-good 2048 s.n s.p (blocks_of s) shaped f.accepted

  whole : (r : Record) → Among r rs → Whole r
  whole r a = kept_whole r (good.rules r a) (whole_each rs f.whole r a)

  pub readable : Readable s x.sizes (looks_in x)
  readable = record {
    table = record { on = f.on; sizes = sized; mirror = f.mirror };
    whole = λ b c lb lc r e. whole r (stands-in-row s (b * s.p + c) r (flat-cell s b c lb lc ∙ e));
    unique = good.unique;
  }

  pub records-are : bare-rs ≡ map bare rs
  records-are = ap records f.mirror ∙ table-records (blocks_of s)

  size-known : (o : ℕ) → size_of bare-rs o ≡ option_map size (files rs o)
  size-known o = ap (λ (xs : List Record). size_of xs o) records-are ∙ sizes-alike rs (λ r a. (whole_each rs f.whole r a, good.rules r a)) o

  length-known : (o : ℕ) → length_of bare-rs o ≡ option_map (λ y. y.long) (files rs o)
  length-known o = ap (λ (xs : List Record). length_of xs o) records-are ∙ (bare-reads-alike rs).length_same o

  -- no file is longer than 1,000 chunks, so its size has 32 bits
  size_fits : (o : ℕ) (y : File) → files rs o ≡ Some y → size y < 2 ^ 32
  size_fits o y e =
      let l = (file-rule 2048 s.n s.p (blocks_of s) (omega arith) good o y e).short in
      let u = size-up rs whole o y e y.long in
      omega arith

  narrow-known : (o : ℕ) (m : Option File) → files rs o ≡ m → option_map narrowed (option_map size m) ≡ option_map size m
  narrow-known o None e = refl
  narrow-known o (Some y) e = ap Some (narrow-same (size y) (size_fits o y e))

  pub narrow_size : (o : ℕ) → option_map narrowed (size_of bare-rs o) ≡ option_map size (files rs o)
  narrow_size o = ap (option_map narrowed) (size-known o) ∙ narrow-known o (files rs o) refl

  pub rows_told : table_rows bare-rs objects ≡ rows_of (files rs)
  rows_told = rows-known bare-rs (files rs) length-known narrow_size
