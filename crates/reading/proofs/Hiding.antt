-- What hides the chunks of an object, by chunk number: how the numbers are found, and that they tell which data records are hidden. Assumes nothing.
use Rattle.std.proofs.Common.{◌≡◌, ℕ, zero, suc, ◌<◌, ◌≤◌, max, Bool, true, false, cond, eqb, ltb, ◌⊎◌, List, [], get_or, replicate, Some, None, Option, sym, refl, ap, ◌∙◌, inl, inr, arith}
use Rattle.std.proofs.lemmas.List.{get_or-replicate}
use Rattle.std.specs.List.{filter_map, fold}
use Rattle.std.proofs.lemmas.Bool.{both_ways, cases_eq, cases_lt, cond-true, cond-false, eqb-true, eq-eqb, ne_eqb, lt-ltb, le-ltb}
use Rattle.flash.specs.declared.chunks.Tag.{Tag}
use Rattle.flash.specs.declared.chunks.Record.{Record}
use Rattle.flash.specs.declared.chunks.Look.{Look}
use Rattle.flash.specs.Chunks.{tag_in}
use Rattle.rules.specs.declared.kinds.Kind.{Kind}
use Rattle.rules.specs.declared.kinds.Kind.TheVariants.{Data as data_k, Header as header_k, CutHeader as cut_k, Marker as marker_k, Other as other_k}
use Rattle.rules.specs.Lists.{Among, largest}
use Rattle.rules.specs.Records.{kind, kind_by, object, is_data, is_cut, is_marker}
use Rattle.rules.specs.Reading.{hidden}
use Rattle.rules.proofs.Adding.{data-number}
use Rattle.rules.proofs.Lists.{largest-least, largest-most}
use Rattle.rules.proofs.Views.{Hides, hidden-view, hidden-from}
use Rattle.tags.specs.Bare.{records}
use Rattle.tags.proofs.Scans.{largest-tags}
use Rattle.reading.specs.Hiders.{above_by, serial_at, hider_at, most_of, CarriedOn}

-- the numbers noted so far, by the tags of the records
module _ (o : ℕ) where
  abbrev Top : ℕ → List Tag → ℕ
  Top k ts = fold (λ n t. max n (hider_at o k t)) 0 ts

  abbrev pub Noting : List Tag → List ℕ → Type 0
  Noting ts now = (k : ℕ) → k < 1001 → get_or now k 0 ≡ Top k ts

  pub noting-none : Noting [] (replicate 1001 0)
  noting-none k h = get_or-replicate {A = ℕ} 1001 k 0 0 h

-- the numbers carried on so far
pub record Carrying (old : List ℕ) (i most : ℕ) (new : List ℕ) : Type 0 where
  pub top : most ≡ most_of old i
  pub done : (k : ℕ) → k < i → get_or new k 0 ≡ most_of old k
  pub left : (k : ℕ) → i ≤ k → get_or new k 0 ≡ get_or old k 0

-- the largest of the first n
most-least : (ys : List ℕ) (n b : ℕ) → ((k : ℕ) → k < n → get_or ys k 0 ≤ b) → most_of ys n ≤ b
most-least ys zero b h = omega arith
most-least ys (suc n) b h = omega (arith, h n (omega arith), most-least ys n b (λ k l. h k (omega (arith, l))))

most-most : (ys : List ℕ) (n k : ℕ) → k < n → get_or ys k 0 ≤ most_of ys n
most-most ys zero k l = absurd (omega arith)
most-most ys (suc n) k l =
    elim (cases_eq k n) [
      | inl e ↦ omega (arith, ap (λ (z : ℕ). get_or ys z 0) e)
      | inr d ↦ omega (arith, most-most ys n k (omega (arith, d)))
    ]

-- a marker, or a cut header of a length below j
abbrev Reaches : Kind → ℕ → ℕ → Type 0
Reaches k third j = (is_marker k ≡ true) ⊎ ((is_cut k ≡ true) × (third < j))

reaches-above : (k : Kind) (third j : ℕ) → 1 ≤ j → Reaches k third j → (n : ℕ) × (n < j) × (above_by k third ≡ Some n)
reaches-above data_k third j l h = absurd (elim h [ inl m ↦ both_ways false refl m | inr q ↦ both_ways false refl q.0 ])
reaches-above header_k third j l h = absurd (elim h [ inl m ↦ both_ways false refl m | inr q ↦ both_ways false refl q.0 ])
reaches-above cut_k third j l h = elim h [ inl m ↦ absurd (both_ways false refl m) | inr q ↦ (third, q.1, refl) ]
reaches-above marker_k third j l h = (0, omega arith, refl)
reaches-above other_k third j l h = absurd (elim h [ inl m ↦ both_ways false refl m | inr q ↦ both_ways false refl q.0 ])

above-reaches : (k : Kind) (third n s b j : ℕ) → n < j → b < serial_at (above_by k third) n s → (b < s) × Reaches k third j
above-reaches data_k third n s b j l h = absurd (omega arith)
above-reaches header_k third n s b j l h = absurd (omega arith)
above-reaches cut_k third n s b j l h =
    elim (cases_eq third n) [
      | inl e ↦ (omega (arith, cond-true (eqb third n) s 0 (eq-eqb third n e)), inr (refl, omega (arith, e)))
      | inr d ↦ absurd (omega (arith, cond-false (eqb third n) s 0 (ne_eqb third n d)))
    ]
above-reaches marker_k third n s b j l h =
    elim (cases_eq 0 n) [
      | inl e ↦ (omega (arith, cond-true (eqb 0 n) s 0 (eq-eqb 0 n e)), inl refl)
      | inr d ↦ absurd (omega (arith, cond-false (eqb 0 n) s 0 (ne_eqb 0 n d)))
    ]
above-reaches other_k third n s b j l h = absurd (omega arith)

module _ (o : ℕ) (r : Record) where
  hider-from : (j : ℕ) → 1 ≤ j → object r ≡ o → Reaches (kind r) r.tag.third j → (n : ℕ) × (n < j) × (hider_at o n r.tag ≡ r.tag.serial)
  unfolding object kind
  hider-from j l e h =
      let x = reaches-above (kind_by r.tag.first) r.tag.third j l h in (
        x.0,
        x.1,
        ap (λ (b : Bool). serial_at (cond b (above_by (kind_by r.tag.first) r.tag.third) None) x.0 r.tag.serial) (eq-eqb _ _ e)
            ∙ ap (λ (m : Option ℕ). serial_at m x.0 r.tag.serial) x.2
            ∙ cond-true (eqb x.0 x.0) r.tag.serial 0 (eq-eqb x.0 x.0 refl),
      )

  hider-view : (n b j : ℕ) → n < j → b < hider_at o n r.tag → (object r ≡ o) × (b < r.tag.serial) × Reaches (kind r) r.tag.third j
  unfolding object kind
  hider-view n b j l h = go (eqb (object r) o) refl h
    where
      go : (c : Bool) → eqb (object r) o ≡ c → b < serial_at (cond c (above_by (kind_by r.tag.first) r.tag.third) None) n r.tag.serial
          → (object r ≡ o) × (b < r.tag.serial) × Reaches (kind r) r.tag.third j
      go true e h' = let x = above-reaches (kind_by r.tag.first) r.tag.third n r.tag.serial b j l h' in (eqb-true (object r) o e, x.0, x.1)
      go false e h' = absurd (omega (arith, h'))

-- so a data record is hidden exactly if its serial is below the one at its number
module _ (xs : List Look) (o : ℕ) (noted hiders : List ℕ) (notes : Noting o (filter_map tag_in xs) noted) (carries : CarriedOn noted hiders) where
  abbrev Largest : (Tag → ℕ) → List Look → ℕ
  Largest f xs = largest (λ x. f x.tag) (records xs)

  module _ (d : Record) (of : object d ≡ o) (isdata : is_data (kind d) ≡ true) where
    at-number : get_or hiders d.tag.first 0 ≡ most_of noted d.tag.first
    at-number = carries d.tag.first (omega (arith, (data-number d isdata).1))

    noted-at : (k : ℕ) → k < d.tag.first → get_or noted k 0 ≡ Largest (hider_at o k) xs
    noted-at k l = notes k (omega (arith, l, (data-number d isdata).1)) ∙ sym (largest-tags (λ r. hider_at o k r.tag) xs)

    below-hider : (h : Record) → Among h (records xs) → Hides h d → d.tag.serial < get_or hiders d.tag.first 0
    below-hider h a v =
        let x = hider-from o h d.tag.first (data-number d isdata).0 (v.same ∙ of) v.how in
        omega (arith, at-number, v.after, x.2, largest-most (λ y. hider_at o x.0 y.tag) (records xs) h a, noted-at x.0 x.1, most-most noted d.tag.first x.0 x.1)

    at_most : hidden (records xs) d ≡ false → get_or hiders d.tag.first 0 ≤ d.tag.serial
    at_most e =
        omega (
          arith,
          at-number,
          most-least noted d.tag.first d.tag.serial
              (λ k l. omega (arith, noted-at k l, largest-least (λ y. hider_at o k y.tag) (records xs) d.tag.serial (each k l))),
        )
      where
        each : (k : ℕ) → k < d.tag.first → (h : Record) → Among h (records xs) → hider_at o k h.tag ≤ d.tag.serial
        each k l h a =
            elim (cases_lt d.tag.serial (hider_at o k h.tag)) [
              | inl g ↦ (let x = hider-view o h k d.tag.serial d.tag.first l g in absurd (both_ways (hidden (records xs) d) e (hidden-from (records xs) d h a (record { isdata = isdata; same = x.0 ∙ sym of; after = x.1; how = x.2 }))))
              | inr g ↦ g
            ]

    pub hidden-by : hidden (records xs) d ≡ ltb d.tag.serial (get_or hiders d.tag.first 0)
    hidden-by = go (hidden (records xs) d) refl
      where
        go : (b : Bool) → hidden (records xs) d ≡ b → b ≡ ltb d.tag.serial (get_or hiders d.tag.first 0)
        go true e = let x = hidden-view (records xs) d e in sym (lt-ltb _ _ (below-hider x.0 x.1 x.2))
        go false e = sym (le-ltb _ _ (at_most e))
