-- How the blocks stand after a mount that accepts. Assumes nothing.
use Rattle.std.proofs.Common.{◌≡◌, Bool, true, false, eqb, List, [], ◌∷◌, map, length, None, refl, subst, sym, inl, inr, arith}
use Rattle.std.proofs.lemmas.Bool.{both_ways, and_parts, eqb-true}
use Rattle.flash.specs.declared.chunks.Record.{Record}
use Rattle.flash.specs.Blocks.{standing}
use Rattle.flash.specs.Model.{State, blocks_of, view_of}
use Rattle.flash.proofs.Views.{blocks-count, block-length}
use Rattle.rules.specs.declared.standings.Standing.{Standing}
use Rattle.rules.specs.Calls.{mount}
use Rattle.rules.specs.Lists.{Among}
use Rattle.rules.specs.Machine.{none, granted}
use Rattle.rules.specs.Mounting.{mounted, mounted_block, verdict}
use Rattle.rules.specs.Refusals.{Store, refusal}
use Rattle.rules.specs.Runs.{Shaped, Stands, Holds, attached}
use Rattle.rules.proofs.Whole.{steps-are-right}
use Rattle.scan.specs.declared.indexes.Index.{Index}
use Rattle.scan.specs.Indexes.{stands_in, Knows}
use Rattle.scan.specs.Mounts.{whole_all}
use Rattle.store.specs.Stores.{held_at, NoneHeld}
use Rattle.store.specs.Running.{StandsSo, OpenPresent}

pub whole_each : (rs : List Record) → whole_all rs ≡ true → (r : Record) → Among r rs → length r.bytes ≡ 2048
whole_each [] e r a = absurd a
whole_each (x ∷ xs) e r (inl q) = subst (λ (z : Record). length z.bytes ≡ 2048) q (eqb-true _ _ (and_parts (eqb (length x.bytes) 2048) _ e).0)
whole_each (x ∷ xs) e r (inr a) = whole_each xs (and_parts (eqb (length x.bytes) 2048) _ e).1 r a

pub shaped : (s : State) → whole_all (standing (blocks_of s)) ≡ true → Shaped 2048 s.n s.p (blocks_of s)
shaped s e = record { blocks' = blocks-count s; chunks = block-length s; bytes' = whole_each (standing (blocks_of s)) e }

-- mount is one of the calls, so what holds after each call holds after it
stands_mounted : (s : State) → Shaped 2048 s.n s.p (blocks_of s) → verdict s.n s.p (blocks_of s) ≡ None → Stands s.n s.p (mounted (blocks_of s))
stands_mounted s sh ok =
    let a : Store = attached s.n s.p s.on (blocks_of s) in
    let t : Store = record { n = s.n; p = s.p; power = true; running = true; opened = none; flash = mounted (blocks_of s) } in
    let h : Holds 2048 a = record { shaped = sh; mounts = ok; powered = λ q. absurd (both_ways false refl q); stands = λ q. absurd (both_ways false refl q); held = λ q. absurd (both_ways false refl q) } in
    let free : refusal a mount ≡ 0 = rw ok refl in
    (steps-are-right 2048 (omega arith) a t mount granted h (free, refl)).holds'.stands refl

-- so the blocks of a store that has just been mounted stand as they should
pub stands_so : (s : State) (x : Index) → Knows (view_of s) x → stands_in x ≡ map mounted_block (blocks_of s) → ∥ StandsSo s x ∥₁
stands_so s x k e = ∣ subst (λ (ss : List Standing). Stands s.n s.p (record { blocks = blocks_of s; stand = ss })) (sym e) (stands_mounted s (shaped s k.whole) k.accepted) ∣₁

pub none_present : (s : State) (held : List Bool) → NoneHeld held → OpenPresent s held
none_present s held none_open o h = absurd (both_ways (held_at held o) (none_open o) h)
