-- The records that looks tell of, with their places: the first of the newest is what the rules call the newest. Assumes nothing.
use Rattle.std.proofs.Common.{◌≡◌, ℕ, zero, suc, ◌+◌, ◌<◌, Bool, true, false, cond, ltb, List, [], ◌∷◌, length, get_or, Some, None, Option, sym, refl, ap, ◌∙◌, subst, arith}
use Rattle.std.proofs.lemmas.Bool.{both_ways, ltb-true}
use Rattle.std.proofs.lemmas.Bool.Decides.{nat_tests}
use Rattle.std.specs.List.{filter, filter_map, enumerate_from, fold, reduce}
use Rattle.flash.specs.declared.chunks.Tag.{Tag}
use Rattle.flash.specs.declared.chunks.Record.{Record}
use Rattle.flash.specs.declared.chunks.Look.{Look}
use Rattle.flash.specs.declared.chunks.Look.TheVariants.{Blank, Damaged, Record as record_l}
use Rattle.rules.specs.Reading.{newest, newer_of as newer_record, newer_if}
use Rattle.tags.specs.declared.finds.Found.{Found}
use Rattle.tags.specs.Bare.{bare_tag, records}
use Rattle.tags.specs.Finds.{record_of, InPlace}
use Rattle.tags.specs.Steps.{found_in, newer_of}

newer-newer : (a b c : Found) → newer_of (newer_of a b) c ≡ newer_of a (newer_of b c)
newer-newer a b c = go (ltb a.tag.serial b.tag.serial) refl (ltb b.tag.serial c.tag.serial) refl
  where
    go : (p : Bool) → ltb a.tag.serial b.tag.serial ≡ p → (q : Bool) → ltb b.tag.serial c.tag.serial ≡ q → newer_of (cond p b a) c ≡ newer_of a (cond q c b)
    go true e true d = ap (λ (x : Bool). cond x c b) d ∙ ap (λ (x : Bool). cond x c a) (let w : true ≡ ltb a.tag.serial c.tag.serial = grind (arith, nat_tests) in w)
    go true e false d = ap (λ (x : Bool). cond x c b) d ∙ ap (λ (x : Bool). cond x b a) (sym e)
    go false e true d = refl
    go false e false d = ap (λ (x : Bool). cond x c a) (let w : ltb a.tag.serial c.tag.serial ≡ false = grind (arith, nat_tests) in w) ∙ ap (λ (x : Bool). cond x b a) (sym e)

abbrev over : Found → Option Found → Found
over a None = a
over a (Some b) = newer_of a b

fold-over : (a : Found) (fs : List Found) → fold newer_of a fs ≡ over a (reduce newer_of fs)
fold-over a [] = refl
fold-over a (f ∷ fs) = fold-over (newer_of a f) fs ∙ at (reduce newer_of fs) ∙ ap (newer_of a) (sym (fold-over f fs))
  where
    at : (m : Option Found) → over (newer_of a f) m ≡ newer_of a (over f m)
    at None = refl
    at (Some b) = newer-newer a f b

module _ (p : Record → Bool) where
  abbrev passing : ℕ → List Look → List Found
  passing k xs = filter (λ f. p (bare_tag f.tag)) (filter_map (λ x. found_in x.0 x.1) (enumerate_from k xs))

  abbrev pub best : ℕ → List Look → Option Found
  best k xs = reduce newer_of (passing k xs)

  abbrev Newest : List Look → Option Record
  Newest xs = newest p (records xs)

  newer-over : (f : Found) (m : Option Found) → Some (bare_tag (over f m).tag) ≡ newer_record (bare_tag f.tag) (record_of m)
  newer-over f None = refl
  newer-over f (Some g) = at (ltb f.tag.serial g.tag.serial)
    where
      at : (b : Bool) → Some (bare_tag (cond b g f).tag) ≡ Some (cond b (bare_tag g.tag) (bare_tag f.tag))
      at true = refl
      at false = refl

  best-value : (k : ℕ) (xs : List Look) → record_of (best k xs) ≡ Newest xs
  best-value k [] = refl
  best-value k (Blank ∷ xs) = best-value (k + 1) xs
  best-value k (Damaged ∷ xs) = best-value (k + 1) xs
  best-value k (record_l t ∷ xs) = at (p (bare_tag t)) (best-value (k + 1) xs)
    where
      at : (b : Bool) → record_of (best (k + 1) xs) ≡ Newest xs → record_of (reduce newer_of (cond b (record { place = k; tag = t } ∷ passing (k + 1) xs) (passing (k + 1) xs))) ≡ newer_if b (bare_tag t) (Newest xs)
      at true ih =
          ap (λ (f : Found). Some (bare_tag f.tag)) (fold-over (record { place = k; tag = t }) (passing (k + 1) xs))
          ∙ newer-over (record { place = k; tag = t }) (best (k + 1) xs)
          ∙ ap (newer_record (bare_tag t)) ih
      at false ih = ih

  -- f passes, and stands first at its place, counted from k
  record From (k : ℕ) (xs : List Look) (f : Found) : Type 0 where
    pub away : ℕ
    pub at : f.place ≡ k + away
    pub within : away < length xs
    pub here : get_or xs away Blank ≡ record_l f.tag
    pub first : (j : ℕ) → j < away → get_or xs j Blank ≡ record_l f.tag → ⊥
    pub passes : p (bare_tag f.tag) ≡ true

  abbrev Froms : ℕ → List Look → Option Found → Type 0
  Froms k xs None = Unit {0}
  Froms k xs (Some f) = From k xs f

  -- with one look more before the others
  later : (k : ℕ) (x : Look) (xs : List Look) (f : Found) → (x ≡ record_l f.tag → ⊥) → From (k + 1) xs f → From k (x ∷ xs) f
  later k x xs f other h =
      record {
        away = suc h.away;
        at = omega (arith, h.at);
        within = omega (arith, h.within);
        here = h.here;
        first = λ j. go j;
        passes = h.passes;
      }
    where
      go : (j : ℕ) → j < suc h.away → get_or (x ∷ xs) j Blank ≡ record_l f.tag → ⊥
      go zero l e = other e
      go (suc j) l e = h.first j (omega (arith, l)) e

  laters : (k : ℕ) (x : Look) (xs : List Look) (m : Option Found) → ((t : Tag) → p (bare_tag t) ≡ true → x ≡ record_l t → ⊥) → Froms (k + 1) xs m → Froms k (x ∷ xs) m
  laters k x xs None none h = tt
  laters k x xs (Some f) none h = later k x xs f (none f.tag h.passes) h

  module _ (k : ℕ) (t : Tag) (xs : List Look) where
    abbrev Here : Found
    Here = record { place = k; tag = t }

    stands : p (bare_tag t) ≡ true → From k (record_l t ∷ xs) Here
    stands e = record { away = 0; at = omega arith; within = omega arith; here = refl; first = λ j l. absurd (omega (arith, l)); passes = e }

    picked : (m : Option Found) → p (bare_tag t) ≡ true → Froms (k + 1) xs m → From k (record_l t ∷ xs) (over Here m)
    picked None e h = stands e
    picked (Some f) e h = go (ltb t.serial f.tag.serial) refl
      where
        go : (b : Bool) → ltb t.serial f.tag.serial ≡ b → From k (record_l t ∷ xs) (cond b f Here)
        go true l = later k (record_l t) xs f (λ d. let s : t ≡ f.tag = cc in omega (arith, ltb-true _ _ l, ap (λ (z : Tag). z.serial) s)) h
        go false l = stands e

    chosen : (b : Bool) → p (bare_tag t) ≡ b → Froms (k + 1) xs (best (k + 1) xs) → Froms k (record_l t ∷ xs) (reduce newer_of (cond b (Here ∷ passing (k + 1) xs) (passing (k + 1) xs)))
    chosen true e h = subst (From k (record_l t ∷ xs)) (sym (fold-over Here (passing (k + 1) xs))) (picked (best (k + 1) xs) e h)
    chosen false e h = laters k (record_l t) xs (best (k + 1) xs) (λ s q d. let same : t ≡ s = cc in both_ways (p (bare_tag t)) e (ap (λ z. p (bare_tag z)) same ∙ q)) h

  best-from : (k : ℕ) (xs : List Look) → Froms k xs (best k xs)
  best-from k [] = tt
  best-from k (Blank ∷ xs) = laters k Blank xs (best (k + 1) xs) (λ t q d. cc) (best-from (k + 1) xs)
  best-from k (Damaged ∷ xs) = laters k Damaged xs (best (k + 1) xs) (λ t q d. cc) (best-from (k + 1) xs)
  best-from k (record_l t ∷ xs) = chosen k t xs (p (bare_tag t)) refl (best-from (k + 1) xs)

  -- what a search that takes them in turn finds
  module _ (xs : List Look) (r : Option Found) (e : r ≡ best 0 xs) where
    pub found-value : record_of r ≡ Newest xs
    found-value = ap record_of e ∙ best-value 0 xs

    pub found-place : InPlace xs r
    found-place = subst (InPlace xs) (sym e) (at (best 0 xs) (best-from 0 xs))
      where
        at : (m : Option Found) → Froms 0 xs m → InPlace xs m
        at None h = tt
        at (Some f) h =
            let same : f.place ≡ h.away = omega (arith, h.at) in
            record { within = omega (arith, h.within); here = ap (λ (i : ℕ). get_or xs i Blank) same ∙ h.here; first = λ j l. h.first j (omega (arith, l)) }
