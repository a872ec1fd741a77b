-- The worked table: one computed test, and each row's statement out of it. Assumes nothing.
use Rattle.std.proofs.Common.{◌≡◌, ℕ, true, ◌&&◌, List, [], ◌∷◌, refl, subst, inl, inr}
use Rattle.std.proofs.lemmas.Bool.{and_parts}
use Rattle.rules.specs.Lists.{Among}
use Rattle.rules.specs.Refusals.{Store}
use Rattle.rules.specs.Worked.{Ask, Row, Right, Worked, table, blank, comes, each_comes, fine, done, every, computing}

test : every 2048 table ≡ true
unfolding computing
test = refl

each-ask : (w : ℕ) (s : Store) (asks : List Ask) → each_comes w s asks ≡ true → (a : Ask) → Among a asks → comes w s a ≡ true
each-ask w s [] e a m = absurd m
each-ask w s (x ∷ xs) e a (inl p) = subst (λ (z : Ask). comes w s z ≡ true) p (and_parts (comes w s x) (each_comes w s xs) e).0
each-ask w s (x ∷ xs) e a (inr m) = each-ask w s xs (and_parts (comes w s x) (each_comes w s xs) e).1 a m

each_row : (w : ℕ) (rows : List Row) → every w rows ≡ true → (row : Row) → Among row rows → Right w row
each_row w [] e row m = absurd m
each_row w (x ∷ xs) e row (inl p) =
    let h = (and_parts (fine w blank x.deeds && each_comes w (done w blank x.deeds) x.asks) (every w xs) e).0 in
    let k = and_parts (fine w blank x.deeds) (each_comes w (done w blank x.deeds) x.asks) h in
    subst (Right w) p (record { none_refused = k.0; all_come = each-ask w (done w blank x.deeds) x.asks k.1 })
each_row w (x ∷ xs) e row (inr m) = each_row w xs (and_parts (fine w blank x.deeds && each_comes w (done w blank x.deeds) x.asks) (every w xs) e).1 row m

pub worked : Worked
worked row m = each_row 2048 table test row m
