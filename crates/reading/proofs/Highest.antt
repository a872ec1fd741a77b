-- A chunk number is there exactly if some data record of its object and number is not hidden. Assumes nothing.
use Rattle.std.proofs.Common.{◌≡◌, ℕ, ◌≤◌, max, Bool, true, false, cond, not, ◌&&◌, eqb, ltb, List, [], ◌∷◌, get_or, Some, None, Option, sym, refl, ap, ◌∙◌, inl, inr, arith}
use mathlib.Core.Path.{fun_ext}
use Rattle.std.proofs.Math.Nat.{max-zero, zero-max}
use Rattle.std.specs.List.{filter_map, cons_option, fold, reduce}
use Rattle.std.specs.Option.{unwrap_or}
use Rattle.std.proofs.lemmas.Bool.{both_ways, cond-true, cond_both, and_parts, and_from, eqb-true, eq-eqb, not-true, not_from_false}
use Rattle.flash.specs.declared.chunks.Tag.{Tag}
use Rattle.flash.specs.declared.chunks.Record.{Record}
use Rattle.flash.specs.declared.chunks.Look.{Look}
use Rattle.flash.specs.Chunks.{tag_in}
use Rattle.rules.specs.Lists.{Among, is_there, largest}
use Rattle.rules.specs.Records.{kind, object, is_data}
use Rattle.rules.specs.Reading.{newest, data_of, hidden, chunk, unhidden, highest_chunk}
use Rattle.rules.proofs.Lists.{newest-found, largest-least, largest-most, Newest, Found}
use Rattle.rules.proofs.Views.{Hides, DataOf, data-view, data-from, hidden-view, hidden-from}
use Rattle.rules.proofs.Removal.{highest-most, highest-least}
use Rattle.tags.specs.Bare.{records}
use Rattle.tags.proofs.Scans.{largest-tags}
use Rattle.reading.specs.Hiders.{shown_number, shown_by}

-- what hides the newest of a number hides every older one of it
older-hidden : (o j : ℕ) (h n d : Record) → DataOf o j n → DataOf o j d → d.tag.serial ≤ n.tag.serial → Hides h n → Hides h d
older-hidden o j h n d vn vd le x =
    record { isdata = vd.isdata; same = x.same ∙ vn.of ∙ sym vd.of; after = omega (arith, x.after); how = elim x.how [ inl m ↦ inl m | inr q ↦ inr (q.0, omega (arith, q.1, vn.at, vd.at)) ] }

module _ (rs : List Record) (o j : ℕ) where
  there-from : (d : Record) → Among d rs → DataOf o j d → hidden rs d ≡ false → is_there (chunk rs o j) ≡ true
  unfolding chunk
  there-from d a v e = go (newest (data_of o j) rs) (newest-found (data_of o j) rs)
    where
      at : (n : Record) → Newest (data_of o j) rs n → (b : Bool) → hidden rs n ≡ b → is_there (cond b None (Some n)) ≡ true
      at n w false k = refl
      at n w true k =
          let x = hidden-view rs n k in
          absurd (both_ways (hidden rs d) e (hidden-from rs d x.0 x.1 (older-hidden o j x.0 n d (data-view o j n w.passes) v (w.most d a (data-from o j d v)) x.2)))

      go : (m : Option Record) → Found (data_of o j) rs m → is_there (unhidden rs m) ≡ true
      go None w = absurd (w d a (data-from o j d v))
      go (Some n) w = at n w (hidden rs n) refl

  shown-from : is_there (chunk rs o j) ≡ true → (d : Record) × Among d rs × DataOf o j d × (hidden rs d ≡ false)
  unfolding chunk
  shown-from e = go (newest (data_of o j) rs) (newest-found (data_of o j) rs) e
    where
      at : (n : Record) → (b : Bool) → hidden rs n ≡ b → is_there (cond b None (Some n)) ≡ true → hidden rs n ≡ false
      at n false k e' = k
      at n true k e' = absurd (both_ways false refl e')

      go : (m : Option Record) → Found (data_of o j) rs m → is_there (unhidden rs m) ≡ true → (d : Record) × Among d rs × DataOf o j d × (hidden rs d ≡ false)
      go None w e' = absurd (both_ways false refl e')
      go (Some n) w e' = (n, w.stands, data-view o j n w.passes, at n (hidden rs n) refl e')

-- so the highest is the largest number of a data record that is not hidden
shown-at-most : (rs : List Record) (o : ℕ) (r : Record) → Among r rs → shown_number rs o r ≤ highest_chunk rs o
unfolding kind
shown-at-most rs o r a =
    cond_both (eqb (object r) o && (is_data (kind r) && not (hidden rs r))) r.tag.first 0 (λ z. z ≤ highest_chunk rs o)
    (λ e.
    let p = and_parts (eqb (object r) o) _ e in
    let q = and_parts (is_data (kind r)) _ p.1 in
    highest-most rs o r.tag.first (there-from rs o r.tag.first r a (record { of = eqb-true _ _ p.0; isdata = q.0; at = refl }) (not-true _ q.1)))
    (λ e. omega arith)

shown-number : (rs : List Record) (o j : ℕ) (d : Record) → DataOf o j d → hidden rs d ≡ false → shown_number rs o d ≡ j
unfolding kind
shown-number rs o j d v e =
    cond-true (eqb (object d) o && (is_data (kind d) && not (hidden rs d))) d.tag.first 0 (and_from _ _ (eq-eqb _ _ v.of) (and_from _ _ v.isdata (not_from_false _ e)))
    ∙ v.at

highest-shown : (rs : List Record) (o : ℕ) → largest (shown_number rs o) rs ≡ highest_chunk rs o
highest-shown rs o =
    omega (
      arith,
      largest-least (shown_number rs o) rs (highest_chunk rs o) (shown-at-most rs o),
      highest-least rs o (largest (shown_number rs o) rs) (λ j e. let x = shown-from rs o j e in omega (arith, shown-number rs o j x.0 x.2 x.3, largest-most (shown_number rs o) rs x.0 x.1)),
    )

-- and so it is by any array that tells which records are hidden
module _ (rs : List Record) (o : ℕ) (hiders : List ℕ) (tells : (d : Record) → object d ≡ o → is_data (kind d) ≡ true → hidden rs d ≡ ltb d.tag.serial (get_or hiders d.tag.first 0)) where
  abbrev pub Shown : Tag → Option ℕ
  Shown = shown_by hiders o

  abbrev Number : Record → ℕ
  Number r = unwrap_or (Shown r.tag) 0

  shown-same : (r : Record) → Number r ≡ shown_number rs o r
  unfolding object kind
  shown-same r = go (eqb (object r) o) refl (is_data (kind r)) refl
    where
      at : (h : Bool) → unwrap_or (cond (not h) (Some r.tag.first) None) 0 ≡ cond (not h) r.tag.first 0
      at true = refl
      at false = refl

      go : (b : Bool) → eqb (object r) o ≡ b → (c : Bool) → is_data (kind r) ≡ c
          → unwrap_or (cond (b && (c && not (ltb r.tag.serial (get_or hiders r.tag.first 0)))) (Some r.tag.first) None) 0 ≡ cond (b && (c && not (hidden rs r))) r.tag.first 0
      go false e c f = refl
      go true e false f = refl
      go true e true f = at (ltb r.tag.serial (get_or hiders r.tag.first 0)) ∙ ap (λ (x : Bool). cond (not x) r.tag.first 0) (sym (tells r (eqb-true _ _ e) f))

  pub highest-by-hiders : largest Number rs ≡ highest_chunk rs o
  highest-by-hiders = ap (λ (f : Record → ℕ). largest f rs) (fun_ext shown-same) ∙ highest-shown rs o

-- and that is the largest of the numbers that there are
module _ (shown : Tag → Option ℕ) where
  abbrev Top : ℕ → List Tag → ℕ
  Top = fold (λ n t. max n (unwrap_or (shown t) 0))

  top-over : (n : ℕ) (ts : List Tag) → fold max n (filter_map shown ts) ≡ Top n ts
  top-over n [] = refl
  top-over n (t ∷ ts) = at (shown t) (λ k. top-over k ts)
    where
      at : (m : Option ℕ) → ((k : ℕ) → fold max k (filter_map shown ts) ≡ Top k ts) → fold max n (cons_option m (filter_map shown ts)) ≡ Top (max n (unwrap_or m 0)) ts
      at None rest = rest n ∙ ap (λ (k : ℕ). Top k ts) (sym (max-zero n))
      at (Some k) rest = rest (max n k)

  reduce-over : (ks : List ℕ) → unwrap_or (reduce max ks) 0 ≡ fold max 0 ks
  reduce-over [] = refl
  reduce-over (k ∷ ks) = ap (λ (n : ℕ). fold max n ks) (sym (zero-max k))

  pub largest-shown : (xs : List Look) → unwrap_or (reduce max (filter_map shown (filter_map tag_in xs))) 0 ≡ largest (λ r. unwrap_or (shown r.tag) 0) (records xs)
  largest-shown xs = reduce-over (filter_map shown (filter_map tag_in xs)) ∙ top-over 0 (filter_map tag_in xs) ∙ sym (largest-tags (λ r. unwrap_or (shown r.tag) 0) xs)
