-- With the data left out, lengths and sizes are the same too. Assumes nothing.
use Rattle.std.proofs.Common.{◌≡◌, ℕ, zero, suc, ◌+◌, ◌-◌, ◌*◌, ◌≤◌, max, true, false, eqb, leb, List, map, length, take, Some, None, Option, sym, refl, ap, ◌∙◌, subst, arith}
use Rattle.std.proofs.lemmas.List.{length-take-le}
use Rattle.std.proofs.lemmas.Bool.{both_ways, and_parts, leb-true, cond-false, ne_eqb}
use Rattle.std.specs.Option.{option_map}
use Rattle.flash.specs.declared.chunks.Record.{Record}
use Rattle.rules.specs.declared.kinds.Kind.{Kind}
use Rattle.rules.specs.declared.kinds.Kind.TheVariants.{Data as data_k, Header as header_k, CutHeader as cut_k, Marker as marker_k, Other as other_k}
use Rattle.rules.specs.Lists.{Among, is_there, within}
use Rattle.rules.specs.Records.{kind, is_data, keeps_rules, rules_by}
use Rattle.rules.specs.Reading.{files, file_of, header, highest_chunk, chunk, bytes_in, size, size_at as file_size, last_count as last_bytes}
use Rattle.rules.proofs.Removal.{chunk-there}
use Rattle.tags.specs.Bare.{bare}
use Rattle.reading.specs.Sizes.{length_by, length_of, last_count, size_at, size_by, size_of}
use Rattle.table.specs.Laws.{BareReadsAlike, SizesAlike}
use Rattle.table.proofs.Bares.{any-map, largest-map, newest-map, header-bare, present-bare, hidden-bare, chunk-bare, highest-bare, topped-bare, replaced-bare, outmarked-bare, older-bare, hides-bare, in_file-bare, wants-bare, used-bare}

thirds : (top : ℕ) (m : Option Record) → length_by (option_map bare m) top ≡ length_by m top
thirds top None = refl
thirds top (Some h) = refl

long_of : (m : Option Record) (top : ℕ) (part : ℕ → Option (List ℕ)) → length_by m top ≡ option_map (λ f. f.long) (file_of m top part)
long_of None top part = refl
long_of (Some h) top part = refl

long_same : (rs : List Record) (o : ℕ) → length_of (map bare rs) o ≡ option_map (λ f. f.long) (files rs o)
unfolding files
long_same rs o =
    ap (λ (m : Option Record). length_by m (highest_chunk (map bare rs) o)) (header-bare rs o)
    ∙ ap (length_by (option_map bare (header rs o))) (highest-bare rs o)
    ∙ thirds (highest_chunk rs o) (header rs o)
    ∙ long_of (header rs o) (highest_chunk rs o) (λ j. bytes_in (chunk rs o j))

pub bare-reads-alike : BareReadsAlike
bare-reads-alike rs =
    record {
      any_same = λ t. any-map bare (λ r. t r.tag) rs;
      newest_same = λ t. newest-map (λ r. t r.tag) rs;
      header_same = header-bare rs;
      present_same = present-bare rs;
      hidden_same = hidden-bare rs;
      chunk_same = chunk-bare rs;
      highest_same = highest-bare rs;
      length_same = long_same rs;
      topped_same = topped-bare rs;
      replaced_same = replaced-bare rs;
      outmarked_same = outmarked-bare rs;
      older_same = older-bare rs;
      hides_same = hides-bare rs;
      in_file_same = in_file-bare rs;
      wanted_same = wants-bare rs;
      used_same = used-bare rs;
      serial_same = largest-map bare (λ r. r.tag.serial) rs;
    }

-- a data record that keeps the rules has at most 2,048 bytes
count-in : (r : Record) → keeps_rules r ≡ true → is_data (kind r) ≡ true → r.tag.third ≤ 2048
unfolding keeps_rules
count-in r e d = go (kind r) (and_parts (within 1 4294967295 r.tag.serial) _ e).1 d
  where
    go : (k : Kind) → rules_by r k ≡ true → is_data k ≡ true → r.tag.third ≤ 2048
    go data_k h d' =
        let a = and_parts (within 257 511 r.tag.second) (within 1 2048 r.tag.third) (and_parts (within 1 1000 r.tag.first) _ h).1 in
        leb-true r.tag.third 2048 (and_parts (leb 1 r.tag.third) (leb r.tag.third 2048) a.1).1
    go header_k h d' = absurd (both_ways false refl d')
    go cut_k h d' = absurd (both_ways false refl d')
    go marker_k h d' = absurd (both_ways false refl d')
    go other_k h d' = absurd (both_ways false refl d')

module _ (rs : List Record) (whole : (r : Record) → Among r rs → (length r.bytes ≡ 2048) × (keeps_rules r ≡ true)) (o : ℕ) where
  last-same : (j : ℕ) → last_count (chunk (map bare rs) o j) ≡ last_bytes (bytes_in (chunk rs o j))
  last-same j = ap last_count (chunk-bare rs o j) ∙ go (chunk rs o j) refl
    where
      go : (m : Option Record) → chunk rs o j ≡ m → last_count (option_map bare m) ≡ last_bytes (bytes_in m)
      go None e = refl
      go (Some d) e =
          let x = chunk-there rs o j (ap is_there e) in
          let same : x.0 ≡ d = (let s : Some x.0 ≡ Some d = sym x.3 ∙ e in cc) in
          let w = whole x.0 x.1 in
          let few : x.0.tag.third ≤ 2048 = count-in x.0 w.1 x.2.isdata in
          let c : length (take x.0.tag.third x.0.bytes) ≡ x.0.tag.third = length-take-le x.0.tag.third x.0.bytes (omega (arith, few, w.0)) in
          sym (subst (λ (z : Record). length (take z.tag.third z.bytes) ≡ z.tag.third) same c)

  size-at-same : (k : ℕ) → size_at k (last_count (chunk (map bare rs) o k)) ≡ file_size (λ j. bytes_in (chunk rs o j)) k
  size-at-same zero = refl
  size-at-same (suc k) =
      cond-false (eqb (suc k) 0) 0 ((suc k - 1) * 2048 + last_count (chunk (map bare rs) o (suc k))) (ne_eqb (suc k) 0 (λ e. omega (arith, e)))
      ∙ ap (λ (z : ℕ). z * 2048 + last_count (chunk (map bare rs) o (suc k))) (let e : suc k - 1 ≡ k = omega arith in e)
      ∙ ap (λ (z : ℕ). k * 2048 + z) (last-same (suc k))

  file-size : (m : Option Record) → size_by (chunk (map bare rs) o) (option_map (λ f. f.long) (file_of m (highest_chunk rs o) (λ j. bytes_in (chunk rs o j)))) ≡ option_map size (file_of m (highest_chunk rs o) (λ j. bytes_in (chunk rs o j)))
  file-size None = refl
  file-size (Some h) = ap Some (size-at-same (max h.tag.third (highest_chunk rs o)))

  size_same : size_of (map bare rs) o ≡ option_map size (files rs o)
  unfolding files
  size_same = ap (size_by (chunk (map bare rs) o)) (long_same rs o) ∙ file-size (header rs o)

pub sizes-alike : SizesAlike
sizes-alike rs whole o = size_same rs whole o
