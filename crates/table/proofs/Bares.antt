-- What the rules say of records turns on their tags alone: with the data left out they say the same. Assumes nothing.
use Rattle.std.proofs.Common.{◌≡◌, ℕ, max, Bool, true, false, cond, not, ◌&&◌, ◌||◌, eqb, ltb, List, [], ◌∷◌, map, length, Some, None, Option, refl, ap, ◌∙◌}
use Rattle.std.proofs.lemmas.List.{length-map}
use Rattle.std.specs.Option.{option_map}
use Rattle.flash.specs.declared.chunks.Record.{Record}
use Rattle.rules.specs.declared.kinds.Kind.{Kind}
use Rattle.rules.specs.declared.kinds.Kind.TheVariants.{Data as data_k, Header as header_k, CutHeader as cut_k, Marker as marker_k, Other as other_k}
use Rattle.rules.specs.Lists.{any, keep, cons_if, largest, is_there}
use Rattle.rules.specs.Records.{kind, object, is_data, is_header, is_marker}
use Rattle.rules.specs.Reading.{newest, newer_if, head_of, data_of, header, header_only, present, hides, hidden, chunk, unhidden, number_there, highest_chunk, topped, replaced, outmarked, has_older, hides_some, in_file_by, in_file, wanted_by, wanted, once, used}
use Rattle.tags.specs.Bare.{bare}
use Rattle.table.proofs.Onces.{keep-alike}

-- one record bare
in-file-by : (rs : List Record) (r : Record) (k : Kind) → in_file_by rs (bare r) k ≡ in_file_by rs r k
unfolding hidden hides topped replaced head_of data_of object kind
in-file-by rs r data_k = refl
in-file-by rs r header_k = refl
in-file-by rs r cut_k = refl
in-file-by rs r marker_k = refl
in-file-by rs r other_k = refl

pub in-file-bare : (rs : List Record) (r : Record) → in_file rs (bare r) ≡ in_file rs r
unfolding in_file kind
in-file-bare rs r = in-file-by rs r (kind r)

wanted_by_lem : (rs : List Record) (r : Record) (k : Kind) → wanted_by rs (bare r) k ≡ wanted_by rs r k
unfolding hidden hides topped replaced outmarked has_older hides_some head_of data_of object kind
wanted_by_lem rs r data_k = refl
wanted_by_lem rs r header_k = refl
wanted_by_lem rs r cut_k = refl
wanted_by_lem rs r marker_k = refl
wanted_by_lem rs r other_k = refl

pub wanted-bare : (rs : List Record) (r : Record) → wanted rs (bare r) ≡ wanted rs r
unfolding wanted kind
wanted-bare rs r = wanted_by_lem rs r (kind r)

pub used-by : (rs : List Record) → length (keep (λ x. in_file rs (bare x)) (once rs)) ≡ used rs
unfolding used
used-by rs = ap length (keep-alike (λ x. in_file rs (bare x)) (in_file rs) (in-file-bare rs) (once rs))

-- lists of bare records
module _ {A B : Type 0} (f : A → B) where
  pub any-map : (t : B → Bool) (xs : List A) → any t (map f xs) ≡ any (λ x. t (f x)) xs
  any-map t [] = refl
  any-map t (x ∷ xs) = ap (λ (b : Bool). t (f x) || b) (any-map t xs)

  pub keep-map : (t : B → Bool) (xs : List A) → keep t (map f xs) ≡ map f (keep (λ x. t (f x)) xs)
  keep-map t [] = refl
  keep-map t (x ∷ xs) = ap (cons_if (t (f x)) (f x)) (keep-map t xs) ∙ at (t (f x))
    where
      at : (b : Bool) → cons_if b (f x) (map f (keep (λ y. t (f y)) xs)) ≡ map f (cons_if b x (keep (λ y. t (f y)) xs))
      at true = refl
      at false = refl

  pub largest-map : (g : B → ℕ) (xs : List A) → largest g (map f xs) ≡ largest (λ x. g (f x)) xs
  largest-map g [] = refl
  largest-map g (x ∷ xs) = ap (max (g (f x))) (largest-map g xs)

largest-alike : {A : Type 0} (f g : A → ℕ) → ((x : A) → f x ≡ g x) → (xs : List A) → largest f xs ≡ largest g xs
largest-alike f g e [] = refl
largest-alike f g e (x ∷ xs) = ap (λ (z : ℕ). max z (largest f xs)) (e x) ∙ ap (max (g x)) (largest-alike f g e xs)

cond-ap : {A B : Type 0} (f : A → B) (b : Bool) (x y : A) → cond b (f x) (f y) ≡ f (cond b x y)
cond-ap f true x y = refl
cond-ap f false x y = refl

newer-bare : (b : Bool) (r : Record) (m : Option Record) → newer_if b (bare r) (option_map bare m) ≡ option_map bare (newer_if b r m)
newer-bare true r None = refl
newer-bare true r (Some s) = ap Some (cond-ap bare (ltb r.tag.serial s.tag.serial) s r)
newer-bare false r m = refl

pub newest-map : (t : Record → Bool) (rs : List Record) → newest t (map bare rs) ≡ option_map bare (newest (λ r. t (bare r)) rs)
newest-map t [] = refl
newest-map t (r ∷ rs) = ap (newer_if (t (bare r)) (bare r)) (newest-map t rs) ∙ newer-bare (t (bare r)) r (newest (λ x. t (bare x)) rs)

there-mapped : (m : Option Record) → is_there (option_map bare m) ≡ is_there m
there-mapped None = refl
there-mapped (Some r) = refl

pub once-map : (rs : List Record) → once (map bare rs) ≡ map bare (once rs)
once-map [] = refl
once-map (r ∷ rs) =
    ap (λ (z : List Record). bare r ∷ keep (λ s. not (eqb s.tag.serial r.tag.serial)) z) (once-map rs)
    ∙ ap (λ (z : List Record). bare r ∷ z) (keep-map bare (λ s. not (eqb s.tag.serial r.tag.serial)) (once rs))

module _ (rs : List Record) where
  header-only : (m : Option Record) → header_only (option_map bare m) ≡ option_map bare (header_only m)
  unfolding kind
  header-only None = refl
  header-only (Some h) = cond-ap (option_map bare) (is_header (kind h)) (Some h) None

  pub header-bare : (o : ℕ) → header (map bare rs) o ≡ option_map bare (header rs o)
  unfolding header head_of object kind
  header-bare o = ap header_only (newest-map (head_of o) rs) ∙ header-only (newest (head_of o) rs)

  pub present-bare : (o : ℕ) → present (map bare rs) o ≡ present rs o
  unfolding present
  present-bare o = ap is_there (header-bare o) ∙ there-mapped (header rs o)

  pub hidden-bare : (r : Record) → hidden (map bare rs) (bare r) ≡ hidden rs r
  unfolding hidden hides object kind
  hidden-bare r = any-map bare (λ h. hides h r) rs

  unhidden-bare : (m : Option Record) → unhidden (map bare rs) (option_map bare m) ≡ option_map bare (unhidden rs m)
  unhidden-bare None = refl
  unhidden-bare (Some d) = ap (λ (b : Bool). cond b None (Some (bare d))) (hidden-bare d) ∙ cond-ap (option_map bare) (hidden rs d) None (Some d)

  pub chunk-bare : (o j : ℕ) → chunk (map bare rs) o j ≡ option_map bare (chunk rs o j)
  unfolding chunk data_of object kind
  chunk-bare o j = ap (unhidden (map bare rs)) (newest-map (data_of o j) rs) ∙ unhidden-bare (newest (data_of o j) rs)

  number-bare : (o : ℕ) (r : Record) → number_there (map bare rs) o (bare r) ≡ number_there rs o r
  unfolding number_there object kind
  number-bare o r =
      ap (λ (b : Bool). cond (eqb (object r) o && (is_data (kind r) && b)) r.tag.first 0)
      (ap is_there (chunk-bare o r.tag.first) ∙ there-mapped (chunk rs o r.tag.first))

  pub highest-bare : (o : ℕ) → highest_chunk (map bare rs) o ≡ highest_chunk rs o
  unfolding highest_chunk
  highest-bare o = largest-map bare (number_there (map bare rs) o) rs ∙ largest-alike (λ r. number_there (map bare rs) o (bare r)) (number_there rs o) (number-bare o) rs

  pub topped-bare : (r : Record) → topped (map bare rs) (bare r) ≡ topped rs r
  unfolding topped head_of object kind
  topped-bare r = any-map bare (λ s. head_of (object r) s && ltb r.tag.serial s.tag.serial) rs

  pub replaced-bare : (r : Record) → replaced (map bare rs) (bare r) ≡ replaced rs r
  unfolding replaced data_of object kind
  replaced-bare r = any-map bare (λ s. data_of (object r) r.tag.first s && ltb r.tag.serial s.tag.serial) rs

  pub outmarked-bare : (r : Record) → outmarked (map bare rs) (bare r) ≡ outmarked rs r
  unfolding outmarked object kind
  outmarked-bare r = any-map bare (λ s. is_marker (kind s) && (eqb (object s) (object r) && ltb r.tag.serial s.tag.serial)) rs

  pub older-bare : (r : Record) → has_older (map bare rs) (bare r) ≡ has_older rs r
  unfolding has_older object kind
  older-bare r = any-map bare (λ s. eqb (object s) (object r) && ltb s.tag.serial r.tag.serial) rs

  pub hides-bare : (r : Record) → hides_some (map bare rs) (bare r) ≡ hides_some rs r
  unfolding hides_some hides object kind
  hides-bare r = any-map bare (hides r) rs

  file-bare : (r : Record) (k : Kind) → in_file_by (map bare rs) (bare r) k ≡ in_file_by rs r k
  unfolding object kind
  file-bare r data_k = (λ i. present-bare (object r) i && (not (hidden-bare r i) && not (replaced-bare r i)))
  file-bare r header_k = ap not (topped-bare r)
  file-bare r cut_k = ap not (topped-bare r)
  file-bare r marker_k = refl
  file-bare r other_k = refl

  pub in_file-bare : (r : Record) → in_file (map bare rs) (bare r) ≡ in_file rs r
  unfolding in_file kind
  in_file-bare r = file-bare r (kind r)

  want-bare : (r : Record) (k : Kind) → wanted_by (map bare rs) (bare r) k ≡ wanted_by rs r k
  want-bare r data_k = file-bare r data_k
  want-bare r header_k = file-bare r header_k
  want-bare r cut_k = (λ i. file-bare r cut_k i || hides-bare r i)
  want-bare r marker_k = (λ i. not (outmarked-bare r i) && older-bare r i)
  want-bare r other_k = refl

  pub wants-bare : (r : Record) → wanted (map bare rs) (bare r) ≡ wanted rs r
  unfolding wanted kind
  wants-bare r = want-bare r (kind r)

  pub used-bare : used (map bare rs) ≡ used rs
  unfolding used
  used-bare =
      ap (λ (z : List Record). length (keep (in_file (map bare rs)) z)) (once-map rs)
      ∙ ap length (keep-map bare (in_file (map bare rs)) (once rs))
      ∙ length-map (keep (λ r. in_file (map bare rs) (bare r)) (once rs)) bare
      ∙ ap length (keep-alike (λ r. in_file (map bare rs) (bare r)) (in_file rs) in_file-bare (once rs))
