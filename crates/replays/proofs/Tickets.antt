-- Where a ticket for an object is. Assumes nothing.
use Rattle.std.proofs.Common.{◌≡◌, ℕ, suc, ◌+◌, ◌<◌, ◌≤◌, Bool, cond, not, true, false, ◌||◌, List, [], ◌∷◌, length, Some, None, Option, eqb, nat_lt, get_or, refl, sym, subst, arith, rules}
use Rattle.std.specs.List.{position, position_or_len}
use Rattle.std.proofs.lemmas.List.Sums.{passes_at_first}
use Rattle.std.proofs.lemmas.List.Folds.{list_any_at}
use borrow.Author.Tests.{tests}
use Rattle.store.specs.declared.tickets.Ticket.{Ticket}
use Rattle.replays.specs.Calls.{holds, PlaceOf}

abbrev pub is_of : ℕ → Ticket → Bool
is_of o k = eqb k.object o

past : (b : Bool) (n m : ℕ) (h : Bool) → suc n ≤ cond (not b) (1 + m) 0 → (n ≤ m → h ≡ false) → (b || h) ≡ false
past true n m h l f = absurd (omega arith)
past false n m h l f = f (omega arith)

none_there : (ks : List Ticket) (o : ℕ) → length ks ≤ position_or_len (is_of o) ks → holds ks o ≡ false
none_there [] o l = refl
none_there (k ∷ ks) o l = past (is_of o k) (length ks) (position_or_len (is_of o) ks) (holds ks o) l (none_there ks o)

unpicked : (k n : ℕ) → None ≡ cond (nat_lt k n) (Some k) None → n ≤ k
unpicked k n e = grind arith

picked : (b : Bool) (k i : ℕ) → Some i ≡ cond b (Some k) None → (b ≡ true) × (i ≡ k)
picked true k i e = (refl, cc)
picked false k i e = cc

is_its : (o : ℕ) (k : Ticket) → is_of o k ≡ true → k.object ≡ o
is_its o k e = search (rules, tests)

there : (ks : List Ticket) (o : ℕ) (d : Ticket) → position_or_len (is_of o) ks < length ks → PlaceOf ks o (Some (position_or_len (is_of o) ks))
there ks o d l = (
  list_any_at (is_of o) ks (position_or_len (is_of o) ks) d l (passes_at_first (is_of o) ks d l),
  l,
  λ (k : Ticket). is_its o (get_or ks (position_or_len (is_of o) ks) k) (passes_at_first (is_of o) ks k l),
)

below : (m n : ℕ) → nat_lt m n ≡ true → m < n
below m n e = search (rules, tests)

pub placed : (ks : List Ticket) (o : ℕ) (r : Option ℕ) → r ≡ position (is_of o) ks → PlaceOf ks o r
placed ks o None e = none_there ks o (unpicked (position_or_len (is_of o) ks) (length ks) e)
placed [] o (Some i) e = cc
placed (d ∷ ks) o (Some i) e =
    let q : (nat_lt (position_or_len (is_of o) (d ∷ ks)) (length (d ∷ ks)) ≡ true) × (i ≡ position_or_len (is_of o) (d ∷ ks)) = picked (nat_lt (position_or_len (is_of o) (d ∷ ks)) (length (d ∷ ks))) (position_or_len (is_of o) (d ∷ ks)) i e in
    let P : ℕ → Type 0 = λ n. PlaceOf (d ∷ ks) o (Some n) in
    subst P (sym q.1) (there (d ∷ ks) o d (below _ _ q.0))
