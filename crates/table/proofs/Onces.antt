-- Each serial once, at its first place: by going through the records with those that came before. Assumes nothing.
use Rattle.std.proofs.Common.{◌≡◌, ℕ, ◌+◌, Bool, true, false, cond, not, ◌&&◌, ◌||◌, eqb, List, [], ◌∷◌, ◌++◌, length, take, sym, refl, ap, ◌∙◌, append_assoc, append-nil, arith}
use Rattle.std.proofs.Math.Bool.{and_comm, or_assoc}
use Rattle.std.proofs.lemmas.List.{map-append, take_at, length_push}
use Rattle.std.specs.List.{filter, enumerate_from}
use Rattle.std.proofs.lemmas.Bool.Decides.{nat_tests}
use Rattle.flash.specs.declared.chunks.Record.{Record}
use Rattle.flash.specs.declared.chunks.Look.{Look}
use Rattle.flash.specs.declared.chunks.Look.TheVariants.{Blank, Damaged, Record as record_l}
use Rattle.rules.specs.Lists.{any, keep, cons_if}
use Rattle.rules.specs.Reading.{once}
use Rattle.flash.specs.Blocks.{records_of}
use Rattle.tags.specs.Bare.{bare_of, bare_tag, bares, records}
use Rattle.table.specs.Loads.{fresh}
use Rattle.table.specs.Steps.{first_of}
use Rattle.table.proofs.Rows.{records_of-append}

-- filters
module _ {A : Type 0} where
  pub keep_all : (xs : List A) → keep (λ x. true) xs ≡ xs
  keep_all [] = refl
  keep_all (x ∷ xs) = ap (λ (z : List A). x ∷ z) (keep_all xs)

  pub keep-alike : (t u : A → Bool) → ((x : A) → t x ≡ u x) → (xs : List A) → keep t xs ≡ keep u xs
  keep-alike t u e [] = refl
  keep-alike t u e (x ∷ xs) = ap (λ (b : Bool). cons_if b x (keep t xs)) (e x) ∙ ap (cons_if (u x) x) (keep-alike t u e xs)

  pub keep-cons_if : (t : A → Bool) (b : Bool) (x : A) (xs : List A) → keep t (cons_if b x xs) ≡ cons_if (t x && b) x (keep t xs)
  keep-cons_if t true x xs = ap (λ (c : Bool). cons_if c x (keep t xs)) (and_comm true (t x))
  keep-cons_if t false x xs = ap (λ (c : Bool). cons_if c x (keep t xs)) (and_comm false (t x))

  pub keep-keep : (t u : A → Bool) (xs : List A) → keep t (keep u xs) ≡ keep (λ x. t x && u x) xs
  keep-keep t u [] = refl
  keep-keep t u (x ∷ xs) = keep-cons_if t (u x) x (keep u xs) ∙ ap (cons_if (t x && u x) x) (keep-keep t u xs)

  pub any_append : (t : A → Bool) (xs ys : List A) → any t (xs ++ ys) ≡ (any t xs || any t ys)
  any_append t [] ys = refl
  any_append t (x ∷ xs) ys = ap (λ (b : Bool). t x || b) (any_append t xs ys) ∙ sym (or_assoc (t x) (any t xs) (any t ys))

  length-cons_if : (b : Bool) (x : A) (xs : List A) → length (cons_if b x xs) ≡ cond b 1 0 + length xs
  length-cons_if true x xs = omega arith
  length-cons_if false x xs = omega arith

-- the records whose serials are new, one after the other
abbrev pub firsts : List Record → List Record → List Record
firsts seen [] = []
firsts seen (r ∷ rs) = cons_if (fresh seen r) r (firsts (seen ++ r ∷ []) rs)

eqb-turn : (a b : ℕ) → eqb a b ≡ eqb b a
eqb-turn a b = grind (arith, nat_tests)

fresh-more : (seen : List Record) (r s : Record) → (fresh seen s && not (eqb s.tag.serial r.tag.serial)) ≡ fresh (seen ++ r ∷ []) s
fresh-more seen r s =
    ap (λ (b : Bool). fresh seen s && not b) (eqb-turn s.tag.serial r.tag.serial)
    ∙ at (any (λ q. eqb q.tag.serial s.tag.serial) seen) (eqb r.tag.serial s.tag.serial)
    ∙ sym (ap not (any_append (λ q. eqb q.tag.serial s.tag.serial) seen (r ∷ [])))
  where
    at : (a b : Bool) → (not a && not b) ≡ not (a || (b || false))
    at true true = refl
    at true false = refl
    at false true = refl
    at false false = refl

once-seen : (seen rs : List Record) → keep (fresh seen) (once rs) ≡ firsts seen rs
once-seen seen [] = refl
once-seen seen (r ∷ rs) =
    ap (cons_if (fresh seen r) r)
    (keep-keep (fresh seen) (λ s. not (eqb s.tag.serial r.tag.serial)) (once rs)
    ∙ keep-alike (λ s. fresh seen s && not (eqb s.tag.serial r.tag.serial)) (fresh (seen ++ r ∷ [])) (fresh-more seen r) (once rs)
    ∙ once-seen (seen ++ r ∷ []) rs)

pub once-firsts : (rs : List Record) → once rs ≡ firsts [] rs
once-firsts rs = sym (keep_all (once rs)) ∙ once-seen [] rs

-- the records of looks, one after the other
pub records-append : (xs ys : List Look) → records (xs ++ ys) ≡ records xs ++ records ys
records-append xs ys = ap records_of (map-append bare_of xs ys) ∙ records_of-append (bares xs) (bares ys)

module _ (p : Record → Bool) where
  abbrev pub Onces : List Look → List Look → ℕ
  Onces seen xs = length (keep p (firsts (records seen) (records xs)))

  -- a look of no record adds none
  none : (seen : List Look) (x : Look) (xs : List Look) → records (x ∷ []) ≡ [] → Onces seen xs ≡ 0 + Onces (seen ++ x ∷ []) xs
  none seen x xs e =
      ap (λ (z : List Record). length (keep p (firsts z (records xs)))) (sym (append-nil (records seen)) ∙ ap (λ (z : List Record). records seen ++ z) (sym e) ∙ sym (records-append seen (x ∷ [])))
      ∙ zero-first (Onces (seen ++ x ∷ []) xs)
    where
      zero-first : (n : ℕ) → n ≡ 0 + n
      zero-first n = omega arith

  onces-cons : (seen : List Look) (x : Look) (xs : List Look) → Onces seen (x ∷ xs) ≡ cond (first_of p (records seen) x) 1 0 + Onces (seen ++ x ∷ []) xs
  onces-cons seen Blank xs = none seen Blank xs refl
  onces-cons seen Damaged xs = none seen Damaged xs refl
  onces-cons seen (record_l t) xs =
      ap length (keep-cons_if p (fresh (records seen) (bare_tag t)) (bare_tag t) (firsts (records seen ++ bare_tag t ∷ []) (records xs)))
      ∙ length-cons_if (first_of p (records seen) (record_l t)) (bare_tag t) (keep p (firsts (records seen ++ bare_tag t ∷ []) (records xs)))
      ∙ ap (λ (z : List Record). cond (first_of p (records seen) (record_l t)) 1 0 + length (keep p (firsts z (records xs)))) (sym (records-append seen (record_l t ∷ [])))

  -- so they are as many as the places whose looks tell of a first one
  module _ (xs : List Look) where
    abbrev pub first_at : ℕ × Look → Bool
    first_at x = first_of p (records (take x.0 xs)) x.1

    one-more : (b : Bool) (x : ℕ × Look) (ys : List (ℕ × Look)) → length (cond b (x ∷ ys) ys) ≡ cond b 1 0 + length ys
    one-more true x ys = omega arith
    one-more false x ys = omega arith

    firsts-from : (seen rest : List Look) (n : ℕ) → length seen ≡ n → xs ≡ seen ++ rest → length (filter first_at (enumerate_from n rest)) ≡ Onces seen rest
    firsts-from seen [] n l e = refl
    firsts-from seen (x ∷ rest) n l e =
        one-more (first_at (n, x)) (n, x) (filter first_at (enumerate_from (n + 1) rest))
        ∙ ap (λ (z : List Look). cond (first_of p (records z) x) 1 0 + length (filter first_at (enumerate_from (n + 1) rest))) (ap (take n) e ∙ take_at seen (x ∷ rest) n l)
        ∙ ap (λ (k : ℕ). cond (first_of p (records seen) x) 1 0 + k) (firsts-from (seen ++ x ∷ []) rest (n + 1) (omega (arith, l, length_push seen x)) (e ∙ sym (append_assoc seen (x ∷ []) rest)))
        ∙ sym (onces-cons seen x rest)

    pub firsts-count : length (filter first_at (enumerate_from 0 xs)) ≡ length (keep p (once (records xs)))
    firsts-count = firsts-from [] xs 0 refl refl ∙ ap (λ (z : List Record). length (keep p z)) (sym (once-firsts (records xs)))
