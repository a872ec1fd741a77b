use Rattle.std.proofs.Common.{◌≡◌, ℕ, ◌-◌, ◌≤◌, true, List, ◌++◌, length, take, replicate, sym, ◌∙◌, arith}
use Rattle.std.proofs.lemmas.Grind.{common_steps}
use Rattle.std.proofs.lemmas.Bool.{and_parts, leb-true}
use Rattle.std.proofs.lemmas.List.{drop-replicate}
use Rattle.rules.specs.Lists.{within}
use Rattle.names.proofs.name.Name.new.Goals as goal

-- a name of up to n bytes, filled up with zeros
filled : (name zeros : List ℕ) (n : ℕ) → length name ≤ n → zeros ≡ replicate (n - length name) 0
    → (length (name ++ zeros) ≡ n) × (name ++ zeros ≡ take (length name) (name ++ zeros) ++ replicate (n - length name) 0)
filled name zeros n l e = grind (arith, common_steps)

pub invariant_of-result : goal.invariant_of-result
invariant_of-result c =
    let n = length c.args.bytes.now in
    let w : within 1 40 n ≡ true = sym c.is_name.ensures ∙ c.if-not-is_name.false in
    let f = filled c.args.bytes.now _ 40 (leb-true n 40 (and_parts _ _ w).1) (drop-replicate n 40 0) in
    rw c.copy_from_slice.ensures.after (w, f.0, f.1)
