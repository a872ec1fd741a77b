-- Files opened and closed. Assumes nothing.
use Rattle.std.proofs.Common.{◌≡◌, ℕ, Bool, true, cond, ◌&&◌, eqb, List, ◌++◌, vec_items, ap, arith}
use mathlib.Core.Path.{fun_ext}
use Rattle.std.proofs.lemmas.Bool.{not-false}
use Rattle.flash.specs.Blocks.{standing}
use Rattle.flash.specs.Model.{State, blocks_of}
use Rattle.rules.specs.Calls.{opens}
use Rattle.rules.specs.Lists.{within}
use Rattle.rules.specs.Machine.{opening, with_opened}
use Rattle.rules.specs.Reading.{present}
use Rattle.rules.specs.Refusals.{Store, recs, early_table, room_table, refusal}
use Rattle.rules.proofs.Checks.{clear-all}
use Rattle.scan.specs.declared.indexes.Index.{Index}
use Rattle.drafts.specs.Drafts.{IsObject}
use Rattle.store.specs.Stores.{store_of, held_at}
use Rattle.store.specs.Running.{OpenPresent}

-- the file of an object is open now, or is not
abbrev pub Marked : List Bool → ℕ → Bool → List Bool → Type 0
Marked held o b now = (k : ℕ) → held_at now k ≡ cond (within 257 511 o && eqb k o) b (held_at held k)

opened-is : (held now : List Bool) (o : ℕ) → within 257 511 o ≡ true → Marked held o true now → held_at now ≡ opening o (held_at held)
opened-is held now o w m = fun_ext (λ k. grind (arith, m k))

pub opens_clear : (st : Store) (o : ℕ) → refusal st (opens o) ≡ 0 → IsObject o × (present (recs st) o ≡ true)
opens_clear st o e =
    let cl = clear-all (early_table st (opens o) ++ room_table st (opens o)) (omega arith) e in
    (not-false _ cl.1.0, not-false _ cl.1.1.0)

pub opened_present : (s : State) (held now : List Bool) (o : ℕ) → present (standing (blocks_of s)) o ≡ true → Marked held o true now → OpenPresent s held → OpenPresent s now
opened_present s held now o e m h k q = grind (arith, m k, h k)

same-open : (st : Store) (os os' : ℕ → Bool) → os' ≡ os → with_opened st os' ≡ with_opened st os
same-open st os os' e = ap (with_opened st) e

pub opened_so : (s : State) (x : Index) (on : Bool) (held now : List Bool) (o : ℕ) → within 257 511 o ≡ true → Marked held o true now
    → store_of s on now (vec_items x.standings) ≡ with_opened (store_of s on held (vec_items x.standings)) (opening o (held_at held))
opened_so s x on held now o w m = same-open (store_of s on held (vec_items x.standings)) _ _ (opened-is held now o w m)
