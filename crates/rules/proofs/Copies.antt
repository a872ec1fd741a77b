-- Reading depends only on which records stand. Assumes nothing.
use Rattle.std.proofs.Common.{◌≡◌, ℕ, Bool, List, Option, refl, arith}
use Rattle.flash.specs.declared.chunks.Record.{Record}
use Rattle.rules.specs.Lists.{any}
use Rattle.rules.specs.Records.{kind}
use Rattle.rules.specs.Reading.{hides, hidden, header, newest, chunk, unhidden, number_there, highest_chunk, files, present, topped, replaced, outmarked, has_older, hides_some, in_file_by, in_file, wanted_by, wanted}
use Rattle.rules.specs.Laws.{Unique, Same}
use Rattle.rules.specs.declared.kinds.Kind.{Kind}
use Rattle.rules.specs.declared.kinds.Kind.TheVariants.{Data as data_k, Header as header_k, CutHeader as cut_k, Marker as marker_k, Other as other_k}
use Rattle.rules.proofs.Lists.{any-from, any_same, newest_same, largest-same, largest-most}

module _ (rs rs' : List Record) (u : Unique rs) (w : Same rs rs') where
  tests_same : (t : Record → Bool) → any t rs ≡ any t rs'
  tests_same t = grind (arith, any_same, any-from)

  newest-kept : (t : Record → Bool) → newest t rs ≡ newest t rs'
  newest-kept t = grind (arith, newest_same)

  header-kept : (o : ℕ) → header rs o ≡ header rs' o
  unfolding header
  header-kept o = grind (arith, newest-kept)

  hidden-kept : (d : Record) → hidden rs d ≡ hidden rs' d
  unfolding hidden
  hidden-kept d = tests_same (λ h. hides h d)

  unhidden-kept : (m : Option Record) → unhidden rs m ≡ unhidden rs' m
  unhidden-kept k = grind (arith, hidden-kept)

  chunk_kept : (o j : ℕ) → chunk rs o j ≡ chunk rs' o j
  unfolding chunk
  chunk_kept o j = grind (arith, unhidden-kept, newest-kept)

  number-kept : (o : ℕ) (r : Record) → number_there rs o r ≡ number_there rs' o r
  unfolding number_there
  number-kept o r = rw (chunk_kept o r.tag.first)

  highest-kept : (o : ℕ) → highest_chunk rs o ≡ highest_chunk rs' o
  unfolding highest_chunk
  highest-kept o = grind (arith, largest-same, number-kept, largest-most)

  pub files_same : (o : ℕ) → files rs o ≡ files rs' o
  unfolding files
  files_same o = grind (arith, header-kept, highest-kept, chunk_kept)

  wanted_by_lem : (r : Record) (k : Kind) → wanted_by rs r k ≡ wanted_by rs' r k
  unfolding present topped replaced outmarked has_older hides_some
  wanted_by_lem r k = grind (arith, header-kept, hidden-kept, tests_same)

  in_file-by : (r : Record) (k : Kind) → in_file_by rs r k ≡ in_file_by rs' r k
  unfolding present topped replaced
  in_file-by r data_k = wanted_by_lem r data_k
  in_file-by r header_k = wanted_by_lem r header_k
  in_file-by r cut_k = wanted_by_lem r header_k
  in_file-by r marker_k = refl
  in_file-by r other_k = refl

  pub in_file_same : (r : Record) → in_file rs r ≡ in_file rs' r
  unfolding in_file
  in_file_same r = in_file-by r (kind r)

  pub wanted_same : (r : Record) → wanted rs r ≡ wanted rs' r
  unfolding wanted
  wanted_same r = wanted_by_lem r (kind r)
