-- What holds of contents that mount accepts. Assumes nothing.
use Rattle.std.proofs.Common.{◌≡◌, ℕ, ◌≤◌, Bool, true, false, not, ltb, List, [], Some, None, Option, refl}
use Rattle.std.proofs.lemmas.Bool.{ltb-false}
use Rattle.flash.specs.declared.chunks.Chunk.{Chunk}
use Rattle.flash.specs.Blocks.{standing}
use Rattle.rules.specs.Laws.{Unique, AllKeep}
use Rattle.rules.specs.Lists.{or_else}
use Rattle.rules.specs.Mounting.{plain_if, placed_fault, placed, first_placed, first_clash, two_named, limit, no_way_on, sizes_fit, verdict}
use Rattle.rules.specs.Reading.{files, used_by}
use Rattle.rules.specs.Records.{keeps_rules}
use Rattle.rules.proofs.Accepts.{keeps-from, unique-from}
use Rattle.rules.proofs.Filed.{some-none}

else-none : {A : Type 0} (x y : Option A) → or_else x y ≡ None → (x ≡ None) × (y ≡ None)
else-none None y e = (refl, e)
else-none (Some a) y e = absurd (some-none a e)

plain-none : (b : Bool) (k : ℕ) → plain_if b k ≡ None → b ≡ false
plain-none true k e = absurd (some-none _ e)
plain-none false k e = refl

placed-none : (k : ℕ) (m : Option (ℕ × ℕ)) → placed_fault k m ≡ None → m ≡ None
placed-none k None e = refl
placed-none k (Some q) e = absurd (some-none _ e)

-- each record keeps the rules, those of one serial are equal, and the files use no more than they may
pub record Accepted (n p : ℕ) (bs : List (List Chunk)) : Type 0 where
  pub rules : AllKeep (standing bs)
  pub unique : Unique (standing bs)
  pub room : used_by (files (standing bs)) ≤ limit n p

pub accepted-from : (n p : ℕ) (bs : List (List Chunk)) → verdict n p bs ≡ None → Accepted n p bs
accepted-from n p bs e =
    let fs = files (standing bs) in
    let e14 = plain_if (no_way_on bs) 14 in
    let e13 = or_else (plain_if (ltb (limit n p) (used_by fs)) 13) e14 in
    let e12 = or_else (plain_if (two_named fs) 12) e13 in
    let e11 = or_else (placed_fault 11 (first_clash [] (placed 0 bs))) e12 in
    let e10 = or_else (placed_fault 10 (first_placed (λ q. not (keeps_rules q.what)) (placed 0 bs))) e11 in
    let a = else-none (plain_if (not (sizes_fit n p)) 9) e10 e in
    let b = else-none (placed_fault 10 (first_placed (λ q. not (keeps_rules q.what)) (placed 0 bs))) e11 a.1 in
    let c = else-none (placed_fault 11 (first_clash [] (placed 0 bs))) e12 b.1 in
    let d = else-none (plain_if (two_named fs) 12) e13 c.1 in
    let f = else-none (plain_if (ltb (limit n p) (used_by fs)) 13) e14 d.1 in
    record { rules = keeps-from bs (placed-none 10 _ b.0); unique = unique-from bs (placed-none 11 _ c.0); room = ltb-false _ _ (plain-none _ _ f.0) }
