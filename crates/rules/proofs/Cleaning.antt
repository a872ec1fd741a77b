-- A cleaning with room for its copies loses nothing. Assumes nothing.
use Rattle.std.proofs.Common.{◌≡◌, ℕ, zero, suc, ◌+◌, ◌<◌, ◌≤◌, Bool, true, false, cond, not, eqb, leb, List, [], ◌∷◌, ◌++◌, length, get_or, set, replicate, Some, None, Option, sym, refl, ap, ◌∙◌, subst, inl, inr, arith, length-set, get_or-set_other, get_or-set_same}
use Rattle.std.proofs.lemmas.Bool.{cases_eq, cases_Bool, and_from, not_from_false, eqb-true, ne_eqb, le-leb}
use Rattle.flash.specs.declared.chunks.Record.{Record}
use Rattle.rules.specs.Lists.{Among, any, is_there, count, first_where, next_if, or_else}
use Rattle.rules.specs.Records.{is_blank}
use Rattle.rules.specs.Reading.{once, wanted}
use Rattle.rules.specs.Places.{is_blank_s, is_open_s, Flash, Act, copying, erasing, clean, clean_block, to_clean, load, load_list, makes_load, runs, copies, copy_place, open_place, blank_place, blank_in, start_of, programmed, least, better, add_place, is_program, does}
use Rattle.rules.specs.Laws.{Unique, Same}
use Rattle.rules.specs.Safety.{SafeAct, SafeRun, AllBlank, BlankTail, Sound, RoomFor, CleaningIsSafe, CleaningMakesAPlace}
use Rattle.flash.specs.declared.chunks.Chunk.{Chunk}
use Rattle.flash.specs.declared.chunks.Chunk.TheVariants.{Blank, Damaged, Holds}
use Rattle.flash.specs.Blocks.{records_of, standing, put_at}
use Rattle.rules.specs.declared.standings.Standing.{Standing}
use Rattle.rules.specs.declared.standings.Standing.TheVariants.{Blank as blank_s, Open as open_s, Closed as closed_s}
use Rattle.rules.proofs.Lists.{any-true, keep-among, keep-from}
use Rattle.rules.proofs.Copies.{wanted_same}
use Rattle.rules.proofs.Blocks.{set-in, now-in, now-other, put_keeps, put-cases}

-- the lowest place that passes
abbrev pub Where : {A : Type 0} → (A → Bool) → List A → Option ℕ → Type 0
Where {A} t xs None = (i : ℕ) (d : A) → i < length xs → t (get_or xs i d) ≡ true → ⊥
Where {A} t xs (Some i) = (i < length xs) × ((d : A) → t (get_or xs i d) ≡ true)

module _ {A : Type 0} (t : A → Bool) where
  pub found : (xs : List A) → Where t xs (first_where t xs)
  found [] = λ i d l h. omega arith
  found (x ∷ xs) = grind (arith, found xs)

  pub found_at : (xs : List A) (i : ℕ) → first_where t xs ≡ Some i → (i < length xs) × ((d : A) → t (get_or xs i d) ≡ true)
  found_at xs i e = subst (Where t xs) e (found xs)

  -- another element, that does not pass either
  pub first-same : (xs : List A) (b : ℕ) (y : A) → ((d : A) → t (get_or xs b d) ≡ false) → t y ≡ false → first_where t (set xs b y) ≡ first_where t xs
  first-same [] b y e f = refl
  first-same (x ∷ xs) zero y e f = ap (λ (z : Bool). next_if z (first_where t xs)) (f ∙ sym (e x))
  first-same (x ∷ xs) (suc b) y e f = ap (next_if (t x)) (first-same xs b y e f)

  -- the first that passes, where none did
  pub first-new : (xs : List A) (b : ℕ) (y : A) → b < length xs → first_where t xs ≡ None → t y ≡ true → first_where t (set xs b y) ≡ Some b
  first-new [] b y l e f = absurd (omega arith)
  first-new (x ∷ xs) zero y l e f = grind arith
  first-new (x ∷ xs) (suc b) y l e f = go (t x) (first_where t xs) e (λ e'. first-new xs b y (omega arith) e' f)
    where
      go : (c : Bool) (m : Option ℕ) → next_if c m ≡ None → (m ≡ None → first_where t (set xs b y) ≡ Some b) → next_if c (first_where t (set xs b y)) ≡ Some (suc b)
      go z m h k = grind arith

pub set_is : {A : Type 0} (xs : List A) (b : ℕ) (y d : A) → b < length xs → get_or xs b d ≡ y → set xs b y ≡ xs
set_is [] b y d l e = refl
set_is {A} (x ∷ xs) zero y d l e = grind arith
set_is {A} (x ∷ xs) (suc b) y d l e = grind (arith, set_is xs b y d (omega arith) e)

pub set-swap : {A : Type 0} (xs : List A) (a b : ℕ) (y z : A) → (a ≡ b → ⊥) → set (set xs a y) b z ≡ set (set xs b z) a y
set-swap [] a b y z n = refl
set-swap (x ∷ xs) zero zero y z n = absurd (n refl)
set-swap (x ∷ xs) zero (suc b) y z n = refl
set-swap (x ∷ xs) (suc a) zero y z n = refl
set-swap {A} (x ∷ xs) (suc a) (suc b) y z n = grind (arith, set-swap xs a b y z (λ e. n (ap suc e)))

-- the first blank chunk of a block whose blank chunks are its last
pub record Spot (cs : List Chunk) (c : ℕ) : Type 0 where
  pub free : get_or cs c Damaged ≡ Blank
  pub tail : (r : Record) → BlankTail (set cs c (Holds r))
  pub left : (r : Record) → suc c + count is_blank (set cs c (Holds r)) ≡ length cs
  pub less : (r : Record) → count is_blank cs ≡ suc (count is_blank (set cs c (Holds r)))
  pub rest : (j : ℕ) → c ≤ j → j < length cs → get_or cs j Damaged ≡ Blank

abbrev pub SpotAt : List Chunk → Option ℕ → Type 0
SpotAt cs None = count is_blank cs ≡ 0
SpotAt cs (Some c) = Spot cs c

pub all_tail : (cs : List Chunk) → AllBlank cs → BlankTail cs
all_tail [] a = tt
all_tail (Blank ∷ cs) a = a.1
all_tail (Damaged ∷ cs) a = all_tail cs a.1
all_tail (Holds r ∷ cs) a = all_tail cs a.1

pub all-count : (cs : List Chunk) → AllBlank cs → count is_blank cs ≡ length cs
all-count [] a = refl
all-count (c ∷ cs) a = rw a.0 (omega (arith, all-count cs a.1))

pub all-get : (cs : List Chunk) (j : ℕ) → AllBlank cs → j < length cs → get_or cs j Damaged ≡ Blank
all-get [] j a l = absurd (omega arith)
all-get (c ∷ cs) zero a l = a.0
all-get (c ∷ cs) (suc j) a l = all-get cs j a.1 (omega arith)

pub spot : (cs : List Chunk) → BlankTail cs → SpotAt cs (first_where is_blank cs)
spot [] t = refl
spot (Blank ∷ cs) t = grind (arith, all_tail, all-count, all-get)
spot (Damaged ∷ cs) t = search (arith, spot cs t)
spot (Holds r ∷ cs) t = grind (arith, spot cs t)

pub blanks-all : (p : ℕ) → AllBlank (replicate p Blank)
blanks-all zero = tt
blanks-all (suc p) = (refl, blanks-all p)

pub blanks-long : (p : ℕ) → length (replicate p Blank) ≡ p
blanks-long zero = refl
blanks-long (suc p) = ap suc (blanks-long p)

-- a program at the first blank chunk of a block that is not closed
module _ (p : ℕ) (s : Flash) (ok : Sound p s) (b c : ℕ) (r : Record) (inside : b < length s.stand) (at : Spot (get_or s.blocks b []) c) where
  abbrev pub block : List Chunk
  block = get_or s.blocks b []

  abbrev pub after : Flash
  after = programmed s b c r

  pub new_block : get_or after.blocks b [] ≡ set block c (Holds r)
  unfolding programmed
  new_block = grind (arith, get_or-set_same)

  pub other_block : (i : ℕ) → (i ≡ b → ⊥) → get_or after.blocks i [] ≡ get_or s.blocks i []
  unfolding programmed
  other_block i n = grind (arith, get_or-set_other)

  pub other_stand : (i : ℕ) (d : Standing) → (i ≡ b → ⊥) → get_or after.stand i d ≡ get_or s.stand i d
  unfolding programmed
  other_stand i d n = get_or-set_other s.stand b i _ d n

  pub new_stand : (d : Standing) → get_or after.stand b d ≡ cond (eqb (suc c) (length block)) closed_s open_s
  unfolding programmed
  new_stand d = get_or-set_same s.stand b _ d inside

  pub not_blank : get_or after.stand b closed_s ≡ blank_s → ⊥
  not_blank e = grind (arith, new_stand)

  pub open_left : get_or after.stand b closed_s ≡ open_s → 1 ≤ count is_blank (set block c (Holds r))
  open_left e = grind (arith, new_stand)

  pub long_after : length after.stand ≡ length after.blocks
  unfolding programmed
  long_after = grind (arith, length-set)

  pub sound_after : Sound p after
  sound_after = grind (arith, not_blank, other_block, other_stand, new_block, open_left, long_after)

-- standings
pub open_is_lem : (x : Standing) → is_open_s x ≡ true → x ≡ open_s
open_is_lem k e = grind arith

pub blank-is : (x : Standing) → is_blank_s x ≡ true → x ≡ blank_s
blank-is k e = grind arith

pub closed_or : (z : Bool) → is_blank_s (cond z closed_s open_s) ≡ false
closed_or k = grind arith

pub first-blank : (p : ℕ) → 1 ≤ p → first_where is_blank (replicate p Blank) ≡ Some 0
first-blank k l = grind arith

-- where the next copy goes
pub record Next (p : ℕ) (s : Flash) (k : ℕ) (r : Record) : Type 0 where
  pub b : ℕ
  pub c : ℕ
  pub is : copy_place s ≡ Some (b, c)
  pub inside : b < length s.stand
  pub unclosed : get_or s.stand b blank_s ≡ closed_s → ⊥
  pub at : Spot (get_or s.blocks b []) c
  pub sound : Sound p (programmed s b c r)
  pub room : RoomFor p (programmed s b c r) k

module _ (p : ℕ) (s : Flash) (ok : Sound p s) (k : ℕ) (r : Record) where
  -- the open block takes it
  pub room_open : (b c : ℕ) → first_where is_open_s s.stand ≡ Some b → (inside : b < length s.stand) → ((d : Standing) → get_or s.stand b d ≡ open_s) → Spot (get_or s.blocks b []) c
      → RoomFor p s (suc k) → RoomFor p (programmed s b c r) k
  unfolding programmed
  room_open b c e inside o at (inl ((i, ei), l)) =
      inl ((i, first-same is_blank_s s.stand b (cond (eqb (suc c) (length (get_or s.blocks b []))) closed_s open_s) (λ d. ap is_blank_s (o d)) (closed_or (eqb (suc c) (length (get_or s.blocks b [])))) ∙ ei), omega arith)
  room_open b c e inside o at (inr (inl (b', e', l))) = elim (cases_eq k 0) [ inl z ↦ inr (inr z) | inr n ↦ inr (inl (b, still n, more)) ]
    where
      same : b' ≡ b
      same = cc

      l' : suc k ≤ count is_blank (get_or s.blocks b [])
      l' = grind arith

      still : (k ≡ 0 → ⊥) → first_where is_open_s (set s.stand b (cond (eqb (suc c) (length (get_or s.blocks b []))) closed_s open_s)) ≡ Some b
      still n =
          ap (λ (z : Bool). first_where is_open_s (set s.stand b (cond z closed_s open_s))) (ne_eqb _ _ (λ q. let f = at.left r in let g = at.less r in omega (arith, l')))
          ∙ ap (first_where is_open_s) (set_is s.stand b open_s blank_s inside (o blank_s)) ∙ e

      more : k ≤ count is_blank (get_or (programmed s b c r).blocks b [])
      more = subst (λ (z : List Chunk). k ≤ count is_blank z) (sym (new_block p s ok b c r inside at)) (let g = at.less r in omega (arith, l'))
  room_open b c e inside o at (inr (inr z)) = absurd (omega arith)

  pub next_open : (b : ℕ) → first_where is_open_s s.stand ≡ Some b → RoomFor p s (suc k) → Next p s k r
  unfolding copy_place open_place
  next_open b e room = go (first_where is_blank (get_or s.blocks b [])) refl (spot (get_or s.blocks b []) (ok.open_is b (o closed_s)).0)
    where
      inside : b < length s.stand
      inside = (found_at is_open_s s.stand b e).0

      o : (d : Standing) → get_or s.stand b d ≡ open_s
      o d = open_is_lem _ ((found_at is_open_s s.stand b e).1 d)

      go : (m : Option ℕ) → first_where is_blank (get_or s.blocks b []) ≡ m → SpotAt (get_or s.blocks b []) m → Next p s k r
      go None f h = grind (arith, o)
      go (Some c) f h = record {
        b = b;
        c = c;
        is = grind arith;
        inside = inside;
        unclosed = grind (arith, o);
        at = h;
        sound = sound_after p s ok b c r inside h;
        room = room_open b c e inside o h room;
      }

  -- a blank block opens
  pub next_blank : first_where is_open_s s.stand ≡ None → (i : ℕ) → first_where is_blank_s s.stand ≡ Some i → suc k ≤ p → Next p s k r
  unfolding copy_place open_place blank_place programmed
  next_blank none i e l = record {
    b = i;
    c = 0;
    is = grind arith;
    inside = inside;
    unclosed = grind (arith, o);
    at = at;
    sound = sound_after p s ok i 0 r inside at;
    room = grind (arith, opened, more);
  }
    where
      inside : i < length s.stand
      inside = (found_at is_blank_s s.stand i e).0

      o : (d : Standing) → get_or s.stand i d ≡ blank_s
      o d = blank-is _ ((found_at is_blank_s s.stand i e).1 d)

      whole : get_or s.blocks i [] ≡ replicate p Blank
      whole = ok.blank_is i (o closed_s)

      full : AllBlank (get_or s.blocks i [])
      full = subst AllBlank (sym whole) (blanks-all p)

      long : length (get_or s.blocks i []) ≡ p
      long = ap (λ (z : List Chunk). length z) whole ∙ blanks-long p

      at : Spot (get_or s.blocks i []) 0
      at = grind (arith, whole, first-blank, spot, all_tail, full)

      opened : (k ≡ 0 → ⊥) → first_where is_open_s (set s.stand i (cond (eqb 1 (length (get_or s.blocks i []))) closed_s open_s)) ≡ Some i
      opened n = grind (arith, long, first-new, inside)

      more : k ≤ count is_blank (get_or (programmed s i 0 r).blocks i [])
      more = subst (λ (z : List Chunk). k ≤ count is_blank z) (sym (new_block p s ok i 0 r inside at)) (grind (arith, at, all-count, full, long))

  pub next : RoomFor p s (suc k) → Next p s k r
  next room = grind (arith, next_open, next_blank)

-- what the copies of a block's records leave
pub record Copied (p m : ℕ) (s s' : Flash) (v : ℕ) (rs : List Record) (acts : List Act) : Type 0 where
  pub sound : Sound p s'
  pub closed : get_or s'.stand v blank_s ≡ closed_s
  pub room : RoomFor p s' m
  pub safe : SafeRun s acts
  pub block_v : get_or s'.blocks v [] ≡ get_or s.blocks v []
  pub others : (r : Record) → Among r (standing (set s.blocks v [])) → Among r (standing (set s'.blocks v []))
  pub moved : (r : Record) → Among r rs → Among r (standing (set s'.blocks v []))
  pub same : Same (standing s.blocks) (standing s'.blocks)
  pub programs : count is_program acts ≡ length rs
  pub erases : count (λ a. not (is_program a)) acts ≡ 0

pub chunk_in : (cs : List Chunk) (c : ℕ) (r : Record) → get_or cs c Damaged ≡ Blank → Among r (records_of (set cs c (Holds r)))
chunk_in [] c r e = cc
chunk_in (x ∷ cs) zero r e = inl refl
chunk_in (x ∷ cs) (suc c) r e = grind (arith, chunk_in cs c r e)

-- what stands after a new record is programmed
pub adding-stands : (bs : List (List Chunk)) (b c : ℕ) (r : Record) → b < length bs → get_or (get_or bs b []) c Damaged ≡ Blank → Same (r ∷ standing bs) (standing (put_at bs b c (Holds r)))
adding-stands bs b c r inside free = record {
  to = λ x a. elim a [
    | inl e ↦ subst (λ (z : Record). Among z (standing (put_at bs b c (Holds r)))) e (set-in bs b (set (get_or bs b []) c (Holds r)) r inside (chunk_in (get_or bs b []) c r free))
    | inr d ↦ put_keeps bs b c (Holds r) x free d
  ];
  from = λ x a. elim (put-cases bs b c (Holds r) x a) [ inl e ↦ inl (cc) | inr d ↦ inr d ];
}

-- one copy, into another block than v
module _ (bs : List (List Chunk)) (v b c : ℕ) (r : Record) (apart : v ≡ b → ⊥) (inside : b < length bs) (free : get_or (get_or bs b []) c Damaged ≡ Blank) where
  pub swapped : put_at (set bs v []) b c (Holds r) ≡ set (put_at bs b c (Holds r)) v []
  swapped = grind (arith, get_or-set_other, set-swap)

  pub free-too : get_or (get_or (set bs v []) b []) c Damaged ≡ Blank
  free-too = grind (arith, get_or-set_other)

  pub one-others : (x : Record) → Among x (standing (set bs v [])) → Among x (standing (set (put_at bs b c (Holds r)) v []))
  one-others x a = subst (λ (z : List (List Chunk)). Among x (standing z)) swapped (put_keeps (set bs v []) b c (Holds r) x free-too a)

  pub one-moved : Among r (standing (set (put_at bs b c (Holds r)) v []))
  one-moved =
      subst (λ (z : List (List Chunk)). Among r (standing z)) swapped
      (set-in (set bs v []) b (set (get_or (set bs v []) b []) c (Holds r)) r (rw length-set inside) (chunk_in (get_or (set bs v []) b []) c r free-too))

  pub one_same : Among r (standing bs) → Same (standing bs) (standing (put_at bs b c (Holds r)))
  one_same here = record {
    to = λ x a. put_keeps bs b c (Holds r) x free a;
    from = grind (arith, put-cases);
  }

module _ (p m : ℕ) (s : Flash) (v : ℕ) (r : Record) (rs : List Record) (ok : Sound p s) (cl : get_or s.stand v blank_s ≡ closed_s) (here : Among r (records_of (get_or s.blocks v []))) (n : Next p s (length rs + m) r) where
  abbrev pub then' : Flash
  then' = programmed s n.b n.c r

  pub apart : v ≡ n.b → ⊥
  apart e = grind arith

  pub inside' : n.b < length s.blocks
  inside' = grind arith

  pub block_kept : get_or then'.blocks v [] ≡ get_or s.blocks v []
  block_kept = other_block p s ok n.b n.c r n.inside n.at v apart

  pub closed_kept : get_or then'.stand v blank_s ≡ closed_s
  closed_kept = other_stand p s ok n.b n.c r n.inside n.at v blank_s apart ∙ cl

  pub stepped : Copied p m then' (runs then' (copies then' rs)) v rs (copies then' rs) → Copied p m s (runs then' (copies then' rs)) v (r ∷ rs) (copying n.b n.c r ∷ copies then' rs)
  unfolding programmed
  stepped h = record {
    sound = h.sound;
    closed = h.closed;
    room = h.room;
    safe = ((now-in s.blocks v r here, n.at.free), h.safe);
    block_v = h.block_v ∙ block_kept;
    others = λ x a. h.others x (one-others s.blocks v n.b n.c r apart inside' n.at.free x a);
    moved = λ x a. elim a [
      | inl e ↦ subst (λ (z : Record). Among z (standing (set (runs then' (copies then' rs)).blocks v []))) e (h.others r (one-moved s.blocks v n.b n.c r apart inside' n.at.free))
      | inr d ↦ h.moved x d
    ];
    same = record {
      to = λ x a. h.same.to x ((one_same s.blocks v n.b n.c r apart inside' n.at.free (now-in s.blocks v r here)).to x a);
      from = λ x a. (one_same s.blocks v n.b n.c r apart inside' n.at.free (now-in s.blocks v r here)).from x (h.same.from x a);
    };
    programs = (omega arith);
    erases = (omega arith);
  }

  pub placed : Copied p m s (runs then' (copies then' rs)) v (r ∷ rs) (copying n.b n.c r ∷ copies then' rs) → Copied p m s (runs s (copies s (r ∷ rs))) v (r ∷ rs) (copies s (r ∷ rs))
  placed h = grind arith

pub copied : (p m : ℕ) (rs : List Record) (s : Flash) (v : ℕ) → Sound p s → get_or s.stand v blank_s ≡ closed_s → ((r : Record) → Among r rs → Among r (records_of (get_or s.blocks v [])))
    → RoomFor p s (length rs + m) → Copied p m s (runs s (copies s rs)) v rs (copies s rs)
copied p m [] s v ok cl here room = grind arith
copied p m (r ∷ rs) s v ok cl here room =
    let n : Next p s (length rs + m) r = next p s ok (length rs + m) r (grind arith) in
    let h : Among r (records_of (get_or s.blocks v [])) = here r (inl refl) in
    placed p m s v r rs ok cl h n (stepped p m s v r rs ok cl h n
    (copied p m rs (programmed s n.b n.c r) v n.sound (closed_kept p m s v r rs ok cl h n)
    (λ x a. subst (λ (z : List Chunk). Among x (records_of z)) (sym (block_kept p m s v r rs ok cl h n)) (here x (inr a))) n.room))

-- the block taken is closed
abbrev pub LeastAt : ℕ → List Standing → Option (ℕ × ℕ) → Type 0
LeastAt b ss None = Unit {0}
LeastAt b ss (Some q) = (i : ℕ) × (q.0 ≡ b + i) × (get_or ss i blank_s ≡ closed_s)

pub shift : (b : ℕ) (x : Standing) (ss : List Standing) (m : Option (ℕ × ℕ)) → LeastAt (suc b) ss m → LeastAt b (x ∷ ss) m
shift b x ss None h = tt
shift b x ss (Some q) h = (suc h.0, (omega arith), h.2)

pub least-better : (b l : ℕ) (ss : List Standing) (m : Option (ℕ × ℕ)) → LeastAt (suc b) ss m → LeastAt b (closed_s ∷ ss) (better b l m)
least-better b l ss None h = (0, omega arith, refl)
least-better b l ss (Some q) h = go (leb l q.1)
  where
    go : (z : Bool) → LeastAt b (closed_s ∷ ss) (Some (cond z (b, l) q))
    go true = (0, omega arith, refl)
    go false = (suc h.0, (omega arith), h.2)

pub least_at : (f : ℕ → ℕ) (ss : List Standing) (b : ℕ) → LeastAt b ss (least f b ss)
least_at f [] b = tt
least_at f (blank_s ∷ ss) b = grind (arith, least_at f ss (suc b), shift)
least_at f (open_s ∷ ss) b = shift b open_s ss (least f (suc b) ss) (least_at f ss (suc b))
least_at f (closed_s ∷ ss) b = least-better b (f b) ss (least f (suc b) ss) (least_at f ss (suc b))

pub safe-append : (acts more : List Act) (s : Flash) → SafeRun s acts → SafeRun (runs s acts) more → SafeRun s (acts ++ more)
safe-append [] more s a b = b
safe-append (x ∷ acts) more s a b = (a.0, safe-append acts more (does s x) a.1 b)

pub once-among : (xs : List Record) → Unique xs → (r : Record) → Among r xs → Among r (once xs)
once-among [] q r a = a
once-among (x ∷ xs) q r (inl e) = inl e
once-among (x ∷ xs) q r (inr a) = grind (arith, once-among xs (λ y z b c. q y z (inr b) (inr c)) r a, keep-among)

pub from-once : (xs : List Record) (x : Record) → Among x (once xs) → Among x xs
from-once [] x a = a
from-once (y ∷ ys) x (inl e) = inl e
from-once (y ∷ ys) x (inr b) = inr (from-once ys x (keep-from (λ z. not (eqb z.tag.serial y.tag.serial)) (once ys) x b).0)

pub in_load : (bs : List (List Chunk)) (v : ℕ) (r : Record) → Among r (load_list bs v) → Among r (records_of (get_or bs v []))
unfolding load_list
in_load bs v r a = grind (arith, from-once, keep-from)

module _ (p : ℕ) (s : Flash) (ok : Sound p s) (q : Unique (standing s.blocks)) (v : ℕ) (cl : get_or s.stand v blank_s ≡ closed_s) (room : RoomFor p s (load s.blocks v)) where
  pub done : Copied p 0 s (runs s (copies s (load_list s.blocks v))) v (load_list s.blocks v) (copies s (load_list s.blocks v))
  unfolding load
  done = copied p 0 (load_list s.blocks v) s v ok cl (in_load s.blocks v) (grind arith)

  pub erasable : SafeAct (runs s (copies s (load_list s.blocks v))).blocks (erasing v)
  unfolding load_list makes_load
  erasable r a w =
      let a' : Among r (records_of (get_or s.blocks v [])) = subst (λ (z : List Chunk). Among r (records_of z)) done.block_v a in
      let w' : wanted (standing s.blocks) r ≡ true = wanted_same (standing s.blocks) _ q done.same r ∙ w in
      elim (cases_Bool (any (λ z. eqb z.tag.serial r.tag.serial) (standing (set s.blocks v [])))) [
        | inl t ↦
            (let x = any-true (λ z. eqb z.tag.serial r.tag.serial) (standing (set s.blocks v [])) t in
            done.others r (subst (λ (z : Record). Among z (standing (set s.blocks v []))) (q x.0 r (now-other s.blocks v x.0 x.1) (now-in s.blocks v r a') (eqb-true _ _ x.2)) x.1))
        | inr f ↦
            done.moved r (keep-among (makes_load (standing s.blocks) (standing (set s.blocks v []))) (once (records_of (get_or s.blocks v []))) r
            (once-among (records_of (get_or s.blocks v [])) (λ y z b c. q y z (now-in s.blocks v y b) (now-in s.blocks v z c)) r a')
            (and_from _ _ w' (not_from_false _ f)))
      ]

  pub block-safe : SafeRun s (copies s (load_list s.blocks v) ++ (erasing v ∷ []))
  block-safe = grind (arith, safe-append, done, erasable)

pub cleaning-is-safe : CleaningIsSafe
unfolding clean to_clean
cleaning-is-safe p s ok q room = go (least (load s.blocks) 0 s.stand) refl (least_at (load s.blocks) s.stand 0)
  where
    go : (m : Option (ℕ × ℕ)) → least (load s.blocks) 0 s.stand ≡ m → LeastAt 0 s.stand m → SafeRun s (clean_block s m)
    go None f h = tt
    go (Some v) f h =
        let e : v.0 ≡ h.0 = (omega arith) in
        let cl : get_or s.stand v.0 blank_s ≡ closed_s = subst (λ (z : ℕ). get_or s.stand z blank_s ≡ closed_s) (sym e) h.2 in
        block-safe p s ok q v.0 cl (room v f)

-- the place that an erase after the copies makes
pub closed_in : (ss : List Standing) (v : ℕ) → get_or ss v blank_s ≡ closed_s → (v < length ss) × ((d : Standing) → get_or ss v d ≡ closed_s)
closed_in [] v e = cc
closed_in (x ∷ ss) zero e = (omega arith, λ d. e)
closed_in (x ∷ ss) (suc v) e = grind (arith, closed_in ss v e)

module _ {A : Type 0} (t : A → Bool) where
  pub count_set : (xs : List A) (v : ℕ) (y : A) → v < length xs → ((d : A) → t (get_or xs v d) ≡ false) → t y ≡ true → count t (set xs v y) ≡ suc (count t xs)
  count_set [] v y l f e = absurd (omega arith)
  count_set (x ∷ xs) zero y l f e = rw (e, f x) (omega arith)
  count_set (x ∷ xs) (suc v) y l f e = omega (arith, count_set xs v y (omega arith) f e)

  pub count-some : (xs : List A) (i : ℕ) (d : A) → i < length xs → t (get_or xs i d) ≡ true → 1 ≤ count t xs
  count-some [] i d l e = absurd (omega arith)
  count-some (x ∷ xs) zero d l e = rw e (omega arith)
  count-some (x ∷ xs) (suc i) d l e = omega (arith, count-some xs i d (omega arith) e)

module _ (p : ℕ) (s : Flash) (v : ℕ) (ok : Sound p s) (cl : get_or s.stand v blank_s ≡ closed_s) where
  abbrev pub erased : Flash
  erased = does s (erasing v)

  pub v_in : v < length s.stand
  v_in = (closed_in s.stand v cl).0

  pub v_closed : (d : Standing) → get_or s.stand v d ≡ closed_s
  v_closed = (closed_in s.stand v cl).1

  pub open_same : first_where is_open_s erased.stand ≡ first_where is_open_s s.stand
  open_same = grind (arith, first-same, v_closed)

  pub place_open : (b : ℕ) → first_where is_open_s s.stand ≡ Some b → is_there (add_place erased) ≡ true
  unfolding add_place open_place
  place_open b e = grind (arith, spot, found_at, open_same, get_or-set_other)

  pub place_blank : first_where is_open_s s.stand ≡ None → (i : ℕ) → first_where is_blank_s s.stand ≡ Some i → is_there (add_place erased) ≡ true
  unfolding add_place open_place blank_place
  place_blank none i e =
      ap (λ (m : Option ℕ). is_there (or_else (blank_in erased.blocks m) (cond (leb 2 (count is_blank_s erased.stand)) (blank_place erased) None))) (open_same ∙ none)
      ∙ ap (λ (b : Bool). is_there (cond b (blank_place erased) None)) (le-leb 2 (count is_blank_s erased.stand) two)
      ∙ go (first_where is_blank_s erased.stand) (found is_blank_s erased.stand)
    where
      two : 2 ≤ count is_blank_s erased.stand
      two = grind (arith, count_set, v_in, v_closed, count-some, found_at)

      go : (m : Option ℕ) → Where is_blank_s erased.stand m → is_there (start_of m) ≡ true
      go None f = absurd (f v closed_s (rw length-set v_in) (grind (arith, get_or-set_same, v_in)))
      go (Some k) f = refl

  pub place_after : RoomFor p s 1 → is_there (add_place erased) ≡ true
  place_after room = grind (arith, place_open, place_blank)

pub runs_append : (acts more : List Act) (s : Flash) → runs s (acts ++ more) ≡ runs (runs s acts) more
runs_append [] more s = refl
runs_append (x ∷ acts) more s = runs_append acts more (does s x)

pub cleaning-makes-a-place : CleaningMakesAPlace
unfolding clean load
cleaning-makes-a-place p s ok blank_there q e light =
    ap (λ (m : Option (ℕ × ℕ)). is_there (add_place (runs s (clean_block s m)))) e
    ∙ ap (λ (z : Flash). is_there (add_place z)) (runs_append (copies s rs) (erasing v ∷ []) s)
    ∙ place_after p (runs s (copies s rs)) v done'.sound done'.closed done'.room
  where
    v : ℕ
    v = q.0

    rs : List Record
    rs = load_list s.blocks v

    closed_v : (m : Option (ℕ × ℕ)) → LeastAt 0 s.stand m → m ≡ Some q → get_or s.stand v blank_s ≡ closed_s
    closed_v k h f = grind arith

    cl : get_or s.stand v blank_s ≡ closed_s
    cl = closed_v (to_clean s) (unfold to_clean in least_at (load s.blocks) s.stand 0) e

    done' : Copied p 1 s (runs s (copies s rs)) v rs (copies s rs)
    done' = copied p 1 rs s v ok cl (in_load s.blocks v) (inl (blank_there, omega arith))
