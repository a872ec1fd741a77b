-- A name taken, and two alike, by a test of the objects from 257 on. Assumes nothing.
use Rattle.std.proofs.Common.{◌≡◌, ℕ, ◌+◌, ◌-◌, ◌<◌, ◌≤◌, Bool, ◌≢◌, List, length, get_or, take, drop, Option, Some, None, Decides, sym, ap, ◌∙◌, inl, inr, arith}
use Rattle.std.proofs.lemmas.Bool.{cases_lt}
use Rattle.std.proofs.lemmas.Bool.Decides.{Decides-like, nat_tests}
use Rattle.std.proofs.lemmas.Grind.{common_steps}
use Rattle.std.proofs.lemmas.List.{take_all, length-drop, get_or-drop}
use Rattle.names.specs.Names.{Entries, name_at, Taken, Alike}

-- an object that has a name is in range
in-range : (es : Entries) (o : ℕ) (name : List ℕ) → name_at es o ≡ Some name → (257 ≤ o) × (o ≤ 511)
unfolding name_at
in-range es o name e = grind (arith, nat_tests, common_steps)

pub taken-from : (es : Entries) (r : Bool) (o : ℕ) (name : List ℕ)
    → Decides r ((i : ℕ) × (i < 255) × (257 + i ≢ o) × (name_at es (257 + i) ≡ Some name)) → Decides r (Taken es o name)
taken-from es r o name d =
    Decides-like r (λ x. (257 + x.0, x.2, x.3))
    (λ x.
    let w = in-range es x.0 name x.2 in
    let e : 257 + (x.0 - 257) ≡ x.0 = omega (arith, w.0) in
    (x.0 - 257, omega (arith, w.0, w.1), (λ q. x.1 (sym e ∙ q)), ap (name_at es) e ∙ x.2))
    d

-- an entry, and a later object that has its name, by a test of the entries after place p
later_at : (es : Entries) (p i : ℕ) → p + 1 + i < 255 → name_at es (257 + (p + 1 + i)) ≡ get_or (drop (p + 1) es) i None
unfolding name_at
later_at es p i h = (let e = get_or-drop (p + 1) es i None in grind (arith, nat_tests, common_steps))

pub later-from : (es xs : Entries) (r : Bool) (p : ℕ) (entry : Option (List ℕ)) (name : List ℕ) → length es ≡ 255 → entry ≡ Some name → xs ≡ take (length es - (p + 1)) (drop (p + 1) es)
    → Decides r ((i : ℕ) × (i < length xs) × (get_or xs i None ≡ Some name))
    → Decides r ((n : List ℕ) × (entry ≡ Some n) × (k : ℕ) × (257 + p < k) × (name_at es k ≡ Some n))
later-from es xs r p entry name l q u d =
    let t : xs ≡ drop (p + 1) es = u ∙ take_all _ _ (omega (arith, length-drop (p + 1) es)) in
    Decides-like r
    (λ x.
    let i = x.0 in
    let h : p + 1 + i < 255 = omega (arith, x.1, ap length t, length-drop (p + 1) es) in
    (name, q, 257 + (p + 1 + i), omega arith, later_at es p i h ∙ ap (λ (ys : Entries). get_or ys i None) (sym t) ∙ x.2))
    (λ x.
    let w = in-range es x.2 x.0 x.4 in
    let i = x.2 - (258 + p) in
    let e : 257 + (p + 1 + i) ≡ x.2 = omega (arith, x.3) in
    let h : p + 1 + i < 255 = omega (arith, w.1, x.3) in
    let n : x.0 ≡ name = (let a = x.1 in cc) in
    (i, omega (arith, ap length t, length-drop (p + 1) es), ap (λ (ys : Entries). get_or ys i None) t ∙ sym (later_at es p i h) ∙ ap (name_at es) e ∙ x.4 ∙ ap Some n))
    d

pub alike-from : (es : Entries) (r : Bool)
    → Decides r ((i : ℕ) × (i < 255) × ((name : List ℕ) × (name_at es (257 + i) ≡ Some name) × Taken es (257 + i) name)) → Decides r (Alike es)
alike-from es r d =
    Decides-like r
    (λ x.
    let y = x.2 in
    let t = y.2 in
    elim (cases_lt (257 + x.0) t.0) [
      | inl h ↦ (257 + x.0, (t.0, y.0, h, y.1, t.2))
      | inr h ↦ (t.0, (257 + x.0, y.0, (let ne = t.1 in let q : t.0 < 257 + x.0 = omega arith in q), t.2, y.1))
    ])
    (λ x.
    let y = x.1 in
    let w = in-range es x.0 y.1 y.3 in
    let e : 257 + (x.0 - 257) ≡ x.0 = omega (arith, w.0) in
    (x.0 - 257, omega (arith, w.0, w.1), (y.1, ap (name_at es) e ∙ y.3, (y.0, (λ q. omega (arith, y.2, e, q)), y.4))))
    d

-- two alike, by a test of each object against the later ones
pub repeated-from : (es : Entries) (r : Bool)
    → Decides r ((i : ℕ) × (i < 255) × ((name : List ℕ) × (name_at es (257 + i) ≡ Some name) × (k : ℕ) × (257 + i < k) × (name_at es k ≡ Some name))) → Decides r (Alike es)
repeated-from es r d =
    Decides-like r
    (λ x.
    let y = x.2 in
    (257 + x.0, (y.2, y.0, y.3, y.1, y.4)))
    (λ x.
    let y = x.1 in
    let w = in-range es x.0 y.1 y.3 in
    let e : 257 + (x.0 - 257) ≡ x.0 = omega (arith, w.0) in
    (x.0 - 257, omega (arith, w.0, w.1), (y.1, ap (name_at es) e ∙ y.3, y.0, omega (arith, e, y.2), y.4)))
    d
