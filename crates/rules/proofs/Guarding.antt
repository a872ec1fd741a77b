-- What is wanted and in no file, and what follows for counting; copies and erases. Assumes nothing.
use Rattle.std.proofs.Common.{◌≡◌, ◌<◌, true, false, not, List, refl, ap, ◌∙◌, arith}
use Rattle.std.proofs.lemmas.Bool.{and_parts}
use Rattle.flash.specs.declared.chunks.Record.{Record}
use Rattle.rules.specs.declared.kinds.Kind.{Kind}
use Rattle.rules.specs.declared.kinds.Kind.TheVariants.{Data as data_k, Header as header_k, CutHeader as cut_k, Marker as marker_k, Other as other_k}
use Rattle.rules.specs.Lists.{Among}
use Rattle.rules.specs.Records.{kind, object, is_data, is_marker}
use Rattle.rules.specs.Reading.{files, used_by, used, hidden, outmarked, has_older, hides_some, in_file, in_file_by, wanted, wanted_by}
use Rattle.rules.specs.Laws.{Unique, Guards, CopiesCountOnce, CopiesUseNothing, WantedGuards, AllWantedAreUsed, ErasingKeepsFiles}
use Rattle.rules.proofs.Lists.{any-true}
use Rattle.rules.proofs.Views.{hides-view, hidden-from, topped-from, outmarked-from, older-view}
use Rattle.rules.proofs.Copies.{files_same, wanted_same, in_file_same}
use Rattle.rules.proofs.Blocks.{erase-files}
use Rattle.rules.proofs.Room.{keep_all, all-in-file}
use Rattle.rules.proofs.Cleaning.{from-once}
use Rattle.rules.proofs.Counting.{used-by-files}
use Rattle.rules.proofs.Keeping.{erase-safe, load-none}

module _ (rs : List Record) where
  -- a hidden data record is not wanted
  hidden-unwanted : (d : Record) → is_data (kind d) ≡ true → hidden rs d ≡ true → wanted rs d ≡ false
  unfolding wanted
  hidden-unwanted d k h = grind arith

  -- what a cut header hides is older, of its object, and not wanted
  cut-guards : (r : Record) → Among r rs → hides_some rs r ≡ true → Guards rs r
  unfolding hides_some
  cut-guards r a e = grind (arith, any-true, hides-view, hidden-unwanted, hidden-from)

  -- of the records older than a marker one is not wanted
  marker-guards : (m s : Record) → Among m rs → is_marker (kind m) ≡ true → Among s rs → object s ≡ object m → s.tag.serial < m.tag.serial → Guards rs m
  unfolding wanted
  marker-guards m s a km b o l = grind (arith, topped-from, cut-guards, hidden-from, outmarked-from)

pub wanted-guards : WantedGuards
unfolding wanted in_file
wanted-guards rs r a w f = go (kind r) refl (ap (wanted_by rs r) refl ∙ w) f
  where
    go : (z : Kind) → kind r ≡ z → wanted_by rs r z ≡ true → in_file_by rs r z ≡ false → Guards rs r
    go data_k k w f = grind arith
    go header_k k w f = grind arith
    go cut_k k w f = grind (arith, cut-guards)
    go marker_k k w f = (let x = older-view rs r (and_parts (not (outmarked rs r)) (has_older rs r) w).1 in marker-guards rs r x.0 a (ap is_marker k) x.1 x.2 x.3)
    go other_k k w f = cc

pub all-wanted-are-used : AllWantedAreUsed
unfolding used
all-wanted-are-used rs u keeps all = grind (arith, used-by-files, keep_all, all-in-file, from-once)

pub copies-count-once : CopiesCountOnce
copies-count-once rs rs' u h = grind (arith, files_same, wanted_same, in_file_same)

pub copies-use-nothing : CopiesUseNothing
copies-use-nothing rs rs' u keeps h =
    let u' : Unique rs' = λ a b x y e. u a b (h.from a x) (h.from b y) e in
    let e : used_by (files rs) ≡ used_by (files rs') = ap used_by (grind (arith, files_same)) in
    (grind (arith, used-by-files))

pub erasing-keeps-files : ErasingKeepsFiles
erasing-keeps-files bs b left inside q l safe = grind (arith, erase-files, load-none, erase-safe)
