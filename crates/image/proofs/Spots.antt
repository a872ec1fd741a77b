-- Where chunks lie: chunks of different places share no byte. Assumes nothing.
use Rattle.std.proofs.Common.{◌≡◌, ℕ, ◌+◌, ◌*◌, ◌<◌, ◌≤◌, ◌≢◌, ◌⊎◌, List, length, get_or, drop, sym, ap, ◌∙◌, inl, inr, ⊎_elim, arith, rules}
use Rattle.std.proofs.lemmas.List.{ext_get_or, places, length-take-le, length-drop}
use Rattle.std.proofs.lemmas.Nat.{same_from_place}
use Rattle.std.proofs.lemmas.Bool.{cases_lt}
use Rattle.image.specs.Format.{start_of, bytes_at}

-- a chunk lies before another or after it
pub apart : (p b c k j : ℕ) → c < p → j < p → (k ≢ b) ⊎ (j ≢ c) → (start_of p k j + 2065 ≤ start_of p b c) ⊎ (start_of p b c + 2065 ≤ start_of p k j)
apart p b c k j hc hj d =
    let ne : (k * p + j) ≢ (b * p + c) = λ e. let u = same_from_place k j b c p hj hc e in ⊎_elim (λ x. x u.0) (λ x. x u.1) d in
    ⊎_elim (λ (x : k * p + j < b * p + c). inl (omega arith)) (λ (x : b * p + c ≤ k * p + j). inr (omega arith)) (cases_lt (k * p + j) (b * p + c))

-- the chunk's first byte is its state
pub state-at : (xs : List ℕ) (s : ℕ) → get_or (bytes_at xs s) 0 0 ≡ get_or xs s 0
state-at xs s = search (rules, places) ∙ ap (λ (i : ℕ). get_or xs i 0) (let e : s + 0 ≡ s = omega arith in e)

length-bytes : (xs : List ℕ) (s : ℕ) → s + 2065 ≤ length xs → length (bytes_at xs s) ≡ 2065
length-bytes xs s h = length-take-le 2065 (drop s xs) (let l = length-drop s xs in omega arith)

-- the bytes of a chunk that were left as they were
pub same_bytes : (xs ys : List ℕ) (s : ℕ) → s + 2065 ≤ length xs → length ys ≡ length xs → ((i : ℕ) → s ≤ i → i < s + 2065 → get_or ys i 0 ≡ get_or xs i 0) → bytes_at ys s ≡ bytes_at xs s
same_bytes xs ys s h l e =
    let lx = length-bytes xs s h in
    let ly = length-bytes ys s (omega arith) in
    ext_get_or 0 (bytes_at ys s) (bytes_at xs s) (ly ∙ sym lx)
    (λ k g. let m : k < 2065 = omega arith in search (rules, places) ∙ e (s + k) (omega arith) (omega arith) ∙ sym (search (rules, places)))
