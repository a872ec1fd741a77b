-- What an index that knows a store's chip tells of it. Assumes nothing.
use Rattle.std.proofs.Common.{◌≡◌, ℕ, Bool, true, leb, List, map, Some, None, Option, sym, refl, ap, ◌∙◌}
use Rattle.std.proofs.lemmas.Bool.{and_parts, leb-true}
use Rattle.std.specs.Option.{option_map}
use Rattle.std.specs.Prelude.{unwrap_or, is_some}
use Rattle.flash.specs.declared.chunks.Record.{Record}
use Rattle.rules.specs.Calls.{long_of}
use Rattle.rules.specs.Lists.{is_there, largest, within}
use Rattle.rules.specs.Reading.{File, Files, files, chunk, present, used, used_by, name_taken}
use Rattle.rules.specs.Refusals.{Store, recs}
use Rattle.rules.proofs.Counting.{used-by-files}
use Rattle.rules.proofs.Filed.{present-file}
use Rattle.tags.specs.Bare.{bare, records}
use Rattle.tags.specs.Finds.{record_of}
use Rattle.tags.specs.declared.finds.Found.{Found}
use Rattle.reading.specs.Sizes.{length_of}
use Rattle.table.proofs.Alikes.{bare-reads-alike}
use Rattle.names.specs.Names.{name_at, name_if, Mirrors}
use Rattle.scan.specs.declared.indexes.Index.{Index}
use Rattle.scan.specs.Indexes.{looks_in, names_in}
use Rattle.scan.proofs.Recorded.{table-records}
use Rattle.checks.specs.Checks.{Runs}
use Rattle.checks.proofs.Accepted.{Accepted, accepted-from}

module _ (st : Store) (x : Index) (k : Runs st x) where
  accepted : Accepted st.n st.p st.flash.blocks
  accepted = accepted-from st.n st.p st.flash.blocks k.knows.accepted

  records-are : records (looks_in x) ≡ map bare (recs st)
  records-are = ap records k.knows.mirror ∙ table-records st.flash.blocks

  pub serial_told : largest (λ r. r.tag.serial) (records (looks_in x)) ≡ largest (λ r. r.tag.serial) (recs st)
  serial_told = ap (largest (λ r. r.tag.serial)) records-are ∙ (bare-reads-alike (recs st)).serial_same

  pub used_told : used (records (looks_in x)) ≡ used_by (files (recs st))
  used_told = ap used records-are ∙ (bare-reads-alike (recs st)).used_same ∙ sym (used-by-files (recs st) accepted.unique accepted.rules)

  -- a chunk, and the length of a file
  found : (m : Option Found) → is_some m ≡ is_there (record_of m)
  found None = refl
  found (Some f) = refl

  there-map : (m : Option Record) → is_there (option_map bare m) ≡ is_there m
  there-map None = refl
  there-map (Some r) = refl

  pub chunk_told : (o j : ℕ) (m : Option Found) → record_of m ≡ chunk (records (looks_in x)) o j → is_some m ≡ is_there (chunk (recs st) o j)
  chunk_told o j m e =
      found m ∙ ap is_there (e ∙ ap (λ (rs : List Record). chunk rs o j) records-are ∙ (bare-reads-alike (recs st)).chunk_same o j) ∙ there-map (chunk (recs st) o j)

  long-map : (m : Option File) → unwrap_or (option_map (λ f. f.long) m) 0 ≡ long_of m
  long-map None = refl
  long-map (Some f) = refl

  pub long_told : (o : ℕ) → unwrap_or (length_of (records (looks_in x)) o) 0 ≡ long_of (files (recs st) o)
  long_told o =
      ap (λ (m : Option ℕ). unwrap_or m 0) (ap (λ (rs : List Record). length_of rs o) records-are ∙ (bare-reads-alike (recs st)).length_same o) ∙ long-map (files (recs st) o)

  -- which objects are files, and which names are taken
  there-if : (m : Option File) → is_there (name_if m) ≡ is_there m
  there-if None = refl
  there-if (Some f) = refl

  pub present_told : (o : ℕ) → within 257 511 o ≡ true → is_there (name_at (names_in x) o) ≡ present (recs st) o
  present_told o w =
      let a = and_parts (leb 257 o) (leb o 511) w in
      ap is_there (k.knows.named o (leb-true 257 o a.0) (leb-true o 511 a.1)) ∙ there-if (files (recs st) o) ∙ sym (present-file (recs st) o)

  pub taken_told : (o : ℕ) (name : List ℕ) (b : Bool) → ((fs : Files) → Mirrors (names_in x) fs → b ≡ name_taken fs o name) → b ≡ name_taken (files (recs st)) o name
  taken_told o name b h = h (files (recs st)) k.knows.named
