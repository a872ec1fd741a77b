-- Any number of records that are not wanted can go at once: the files stay, and nothing is newly wanted. Assumes nothing.
use Rattle.std.proofs.Common.{◌≡◌, Bool, true, false, not, eqb, List, [], ◌∷◌, refl, inl, inr, arith, ℕ}
use Rattle.std.proofs.lemmas.Bool.{cases_Bool}
use Rattle.flash.specs.declared.chunks.Record.{Record}
use Rattle.rules.specs.Lists.{Among, any, keep}
use Rattle.rules.specs.Reading.{files, wanted}
use Rattle.rules.specs.Laws.{Unique, Same, Shrunk, WantedSuffices}
use Rattle.rules.proofs.Lists.{any-true, any-from, keep-among, keep-from}
use Rattle.rules.proofs.Copies.{files_same, wanted_same}
use Rattle.rules.proofs.Removal.{Keeps, without, without-keep, unwanted-can-go}

serial_in : List Record → Record → Bool
serial_in rs r = any (λ s. eqb s.tag.serial r.tag.serial) rs

there : (rs : List Record) (r : Record) → serial_in rs r ≡ true → (s : Record) × Among s rs × (s.tag.serial ≡ r.tag.serial)
unfolding serial_in
there rs r e = grind (arith, any-true)

not-there : (rs : List Record) (r s : Record) → serial_in rs r ≡ false → Among s rs → s.tag.serial ≡ r.tag.serial → ⊥
unfolding serial_in
not-there rs r s e a q = grind (arith, any-from)

abbrev less_all : List Record → List Record → List Record
less_all rs [] = rs
less_all rs (u ∷ us) = less_all (without rs u) us

less-from : (rs us : List Record) (r : Record) → Among r (less_all rs us) → Among r rs
less-from rs [] r a = a
less-from rs (u ∷ us) r a = (without-keep rs u).from r (less-from (without rs u) us r a)

less-stay : (rs us : List Record) (r : Record) → Among r rs → ((u : Record) → Among u us → r.tag.serial ≡ u.tag.serial → ⊥) → Among r (less_all rs us)
less-stay rs [] r a n = a
less-stay rs (u ∷ us) r a n = less-stay (without rs u) us r ((without-keep rs u).stay r a (n u (inl refl))) (λ v b. n v (inr b))

less-gone : (rs us : List Record) (r u : Record) → Among u us → Among r (less_all rs us) → r.tag.serial ≡ u.tag.serial → ⊥
less-gone rs [] r u a b e = a
less-gone rs (v ∷ us) r u (inl p) b e = (without-keep rs v).gone r (less-from (without rs v) us r b) (cc)
less-gone rs (v ∷ us) r u (inr a) b e = less-gone (without rs v) us r u a b e

same-keeps : (rs rs' : List Record) → Unique rs → Same rs rs' → Keeps rs rs'
same-keeps rs rs' q w = grind (arith, files_same, wanted_same)

keeps-trans : (rs mid rs' : List Record) → ((r : Record) → Among r rs' → Among r mid) → Keeps rs mid → Keeps mid rs' → Keeps rs rs'
keeps-trans rs mid rs' sub h k = grind arith

-- the records of one serial, that stand or do not
one-keeps : (rs : List Record) (u : Record) → Unique rs → ((s : Record) → Among s rs → s.tag.serial ≡ u.tag.serial → s ≡ u) → (Among u rs → wanted rs u ≡ false) → Keeps rs (without rs u)
one-keeps rs u q own idle = elim (cases_Bool (serial_in rs u)) [ inl t ↦ grind (arith, unwanted-can-go, here) | inr f ↦ same-keeps rs (without rs u) q (same f) ]
  where
    here : serial_in rs u ≡ true → Among u rs
    here t = grind (arith, there rs u t)

    same : serial_in rs u ≡ false → Same rs (without rs u)
    same f = record { to = λ r a. (without-keep rs u).stay r a (not-there rs u r f a); from = (without-keep rs u).from }

-- all (the first list) holds all that stands on the way
module _ (all : List Record) (q : Unique all) where
  unique_in : (cur : List Record) → ((r : Record) → Among r cur → Among r all) → Unique cur
  unique_in cur sub a b x y e = grind arith

  less-keeps : (us cur : List Record) → ((r : Record) → Among r cur → Among r all) → ((u : Record) → Among u us → Among u all)
      → ((u : Record) → Among u us → Among u cur → wanted cur u ≡ false) → Keeps cur (less_all cur us)
  less-keeps [] cur sub of idle = grind arith
  less-keeps (u ∷ us) cur sub of idle =
      keeps-trans cur (without cur u) (less_all (without cur u) us) (less-from (without cur u) us) one
      (less-keeps us (without cur u) (λ r a. sub r ((without-keep cur u).from r a)) (λ v a. of v (inr a)) after)
    where
      one : Keeps cur (without cur u)
      one = one-keeps cur u (unique_in cur sub) (grind arith) (idle u (inl refl))

      after : (v : Record) → Among v us → Among v (without cur u) → wanted (without cur u) v ≡ false
      after v a b = (let k = one.asked v b in let i = idle v (inr a) ((without-keep cur u).from v b) in grind arith)

pub shrunk-keeps : (rs rs' : List Record) → Unique rs → Shrunk rs rs' → Keeps rs rs'
shrunk-keeps rs rs' q w =
    keeps-trans rs (less_all rs lost) rs' same.from (less-keeps rs q lost rs (λ r a. a) (λ u a. (keep-from test rs u a).0) idle)
    (grind (arith, same-keeps, less_all, unique_in, less-from, lost, same))
  where
    test : Record → Bool
    test r = not (serial_in rs' r)

    -- the records of rs that have gone
    lost : List Record
    lost = keep test rs

    gone : (u : Record) → Among u lost → serial_in rs' u ≡ false
    gone u a = (let e = (keep-from test rs u a).1 in grind arith)

    idle : (u : Record) → Among u lost → Among u rs → wanted rs u ≡ false
    idle u a b = (let n = not-there rs' u u (gone u a) in let k = w.kept u b in grind arith)

    here : (r : Record) → Among r (less_all rs lost) → Among r rs'
    here r a = elim (cases_Bool (serial_in rs' r)) [
      | inl t ↦ (grind (arith, there, less-from, lost))
      | inr f ↦ grind (arith, less-gone, lost, keep-among, test, less-from)
    ]

    same : Same (less_all rs lost) rs'
    same = record { to = here; from = λ r a. less-stay rs lost r (w.from r a) (λ u b e. not-there rs' u r (gone u b) a e) }

pub shrunk-files : (rs rs' : List Record) → Unique rs → Shrunk rs rs' → (o : ℕ) → files rs o ≡ files rs' o
shrunk-files rs rs' q w = (shrunk-keeps rs rs' q w).same

pub wanted-suffices : WantedSuffices
wanted-suffices rs rs' q w = (let k = shrunk-keeps rs rs' q w in (k.same, k.asked))
