use Rattle.std.proofs.Common.{◌≡◌, ℕ, ◌-◌, ◌<◌, Bool, true, false, length, get_or, MatchBool, Decides, sym, refl, subst, rules, arith}
use Rattle.std.specs.List.{HoldsAt, AllWithin, range_with_len}
use Rattle.std.proofs.lemmas.Iterator.{cases_from_any, YieldsList-from_range}
use Rattle.std.proofs.lemmas.List.FromFn.{length-range_with_len, get_or-range_with_len}
use Rattle.std.proofs.lemmas.Bool.{both_ways}
use borrow.Author.Tests.{tests}
use Rattle.rules.specs.Places.{load}
use Rattle.tags.specs.Bare.{bares}
use Rattle.table.specs.Rows.{blocks_of}
use Rattle.scan.proofs.tables.Scan.some_idle.Goals as goal

-- some number below n has P
decides : (r : Bool) (n : ℕ) (P : ℕ → Type 0)
    → MatchBool r ((k : ℕ) × (k < length (range_with_len 0 n)) × HoldsAt (λ b. b < n → P b) (range_with_len 0 n) k) (AllWithin (λ b. b < n → P b → ⊥) (range_with_len 0 n) 0 (length (range_with_len 0 n)))
    → Decides r ((b : ℕ) × (b < n) × P b)
decides true n P m =
    let l : m.0 < n = omega (arith, m.1, length-range_with_len 0 n) in
    let e : get_or (range_with_len 0 n) m.0 0 ≡ m.0 = omega (arith, get_or-range_with_len 0 n m.0 0 l) in
    (λ _. (m.0, l, subst P e (m.2 0 (omega arith))), λ _. refl)
decides false n P m = (
  λ e. absurd (both_ways false refl e),
  λ w. absurd (let e : get_or (range_with_len 0 n) w.0 0 ≡ w.0 = omega (arith, get_or-range_with_len 0 n w.0 0 w.1) in
      m w.0 0 (omega arith) (omega (arith, w.1, length-range_with_len 0 n)) (omega (arith, w.1)) (subst P (sym e) w.2)),
)

pub returns : goal.returns
returns g c =
    let z = c.args.self.now.sizes in
    let loads = λ (b : ℕ). load (blocks_of z.chunks z.blocks (bares c.args.self.now.rows.now)) b in
    λ h. decides c.any.result z.blocks (λ b. loads b ≡ 0)
    (cases_from_any _ _ c.any.result (λ b. b < z.blocks → loads b ≡ 0) (λ b. b < z.blocks → loads b ≡ 0 → ⊥) c.any.ensures.ran
    (YieldsList-from_range 0 z.blocks z.blocks refl (let e : z.blocks - 0 ≡ z.blocks = omega arith in e)) (λ x q k. search (rules, tests)) (λ x q k. search (rules, tests)))
