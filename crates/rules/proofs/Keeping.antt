-- Contents that mount accepts stay so through copies and erases, done or failed. Assumes nothing.
use Rattle.std.proofs.Common.{◌≡◌, ℕ, zero, suc, ◌<◌, ◌≤◌, Bool, true, false, ◌⊎◌, List, [], ◌∷◌, length, get_or, set, Some, sym, refl, ap, ◌∙◌, subst, inl, inr, arith, length-set, get_or-set_other, get_or-set_same}
use Rattle.std.proofs.lemmas.Bool.{cases_eq}
use Rattle.flash.specs.declared.chunks.Record.{Record}
use Rattle.rules.specs.Lists.{Among, keep}
use Rattle.rules.specs.Records.{keeps_rules}
use Rattle.rules.specs.Reading.{wanted, files, File, Files, used_by}
use Rattle.rules.specs.Places.{Flash, Act, copying, erasing, load, load_list, makes_load, copies, programmed}
use Rattle.rules.specs.Mounting.{sizes_fit, limit}
use Rattle.rules.specs.Laws.{Unique, Same, Shrunk, Left}
use Rattle.rules.specs.Safety.{SafeAct, Sound, RoomFor}
use Rattle.rules.specs.Machine.{Breaks}
use Rattle.rules.specs.Runs.{Shaped}
use Rattle.flash.specs.declared.chunks.Chunk.{Chunk}
use Rattle.flash.specs.declared.chunks.Chunk.TheVariants.{Blank, Damaged, Holds}
use Rattle.flash.specs.Blocks.{records_of, standing, put_at}
use Rattle.rules.specs.declared.standings.Standing.TheVariants.{Blank as blank_s, Closed as closed_s}
use Rattle.rules.proofs.Lists.{any-from}
use Rattle.rules.proofs.Blocks.{set_cases, set_other, set-in, now-in, now-other, now-cases, put_keeps, put-cases, left-from, chunk-cases, is_copy}
use Rattle.rules.proofs.Shrinking.{shrunk-files, shrunk-keeps}
use Rattle.rules.proofs.Copies.{wanted_same}
use Rattle.rules.proofs.Cleaning.{from-once, Next, next}

-- the files of contents that mount accepts
pub record FilesOk (n p : ℕ) (fs : Files) : Type 0 where
  pub room : used_by fs ≤ limit n p
  pub names : (o o' : ℕ) (f f' : File) → fs o ≡ Some f → fs o' ≡ Some f' → f.name ≡ f'.name → o ≡ o'

abbrev pub Way : ℕ → List (List Chunk) → Type 0
Way n bs = (i : ℕ) × (i < n) × (load bs i ≡ 0)

-- contents that mount accepts
pub record Good (w n p : ℕ) (bs : List (List Chunk)) : Type 0 where
  pub sizes : sizes_fit n p ≡ true
  pub shape : Shaped w n p bs
  pub rules : (r : Record) → Among r (standing bs) → keeps_rules r ≡ true
  pub unique : Unique (standing bs)
  pub filed : FilesOk n p (files (standing bs))
  pub way : Way n bs

pub files-ok : (n p : ℕ) (fs fs' : Files) → ((o : ℕ) → fs o ≡ fs' o) → FilesOk n p fs → FilesOk n p fs'
files-ok n p fs fs' e h = grind arith

-- sizes
pub record Sized (n p : ℕ) (bs : List (List Chunk)) : Type 0 where
  pub many : length bs ≡ n
  pub each : (i : ℕ) → i < n → length (get_or bs i []) ≡ p

pub sized : (w n p : ℕ) (bs : List (List Chunk)) → Shaped w n p bs → Sized n p bs
sized w n p bs h = grind arith

pub sized_set : (n p : ℕ) (bs : List (List Chunk)) (b : ℕ) (cs : List Chunk) → Sized n p bs → length cs ≡ length (get_or bs b []) → Sized n p (set bs b cs)
sized_set n p bs b cs h e = grind (arith, length-set, get_or-set_same, get_or-set_other)

pub sized-put : (n p : ℕ) (bs : List (List Chunk)) (b c : ℕ) (x : Chunk) → Sized n p bs → Sized n p (put_at bs b c x)
sized-put n p bs b c x h = search (arith, sized_set, length-set)

pub left-long : (xs ys : List Chunk) → Left xs ys → length ys ≡ length xs
left-long [] [] l = refl
left-long [] (y ∷ ys) l = absurd l
left-long (x ∷ xs) [] l = absurd l
left-long (x ∷ xs) (y ∷ ys) l = ap suc (left-long xs ys l.1)

-- what has gone was not wanted
pub same-shrunk : (rs rs' : List Record) → Same rs rs' → Shrunk rs rs'
same-shrunk rs rs' h = grind arith

pub good-shrunk : (w n p : ℕ) (bs bs' : List (List Chunk)) → Good w n p bs → Sized n p bs' → Shrunk (standing bs) (standing bs') → Way n bs' → Good w n p bs'
good-shrunk w n p bs bs' g z h way = record {
  sizes = g.sizes;
  shape = record { blocks' = z.many; chunks = z.each; bytes' = λ r a. g.shape.bytes' r (h.from r a) };
  rules = λ r a. g.rules r (h.from r a);
  unique = λ x y a b e. g.unique x y (h.from x a) (h.from y b) e;
  filed = files-ok n p (files (standing bs)) (files (standing bs')) (grind (arith, shrunk-files)) g.filed;
  way = way;
}

-- a block whose wanted records stand elsewhere has load 0
keep-none : {A : Type 0} (t : A → Bool) (xs : List A) → ((x : A) → Among x xs → t x ≡ false) → keep t xs ≡ []
keep-none t [] f = refl
keep-none t (x ∷ xs) f = grind (arith, keep-none t xs (λ y a. f y (inr a)))

pub load-none : (bs : List (List Chunk)) (i : ℕ) → SafeAct bs (erasing i) → load bs i ≡ 0
unfolding load load_list makes_load
load-none bs i safe = grind (arith, keep-none, any-from, from-once)

set_twice : {A : Type 0} (xs : List A) (v : ℕ) (x y : A) → set (set xs v x) v y ≡ set xs v y
set_twice [] v x y = refl
set_twice (z ∷ zs) zero x y = refl
set_twice {A} (z ∷ zs) (suc v) x y = grind (arith, set_twice zs v x y)

-- an erase, done or failed
pub erase-shrunk : (bs : List (List Chunk)) (v : ℕ) (left : List Chunk) → SafeAct bs (erasing v) → Left (get_or bs v []) left → Shrunk (standing bs) (standing (set bs v left))
erase-shrunk bs v left safe l = record {
  from = λ r a. elim (set_cases bs v left r a) [ inl c ↦ now-in bs v r (left-from (get_or bs v []) left l r c) | inr c ↦ now-other bs v r c ];
  kept = λ r a t. elim (now-cases bs v r a) [ inl c ↦ set_other bs v left r (safe r c t) | inr c ↦ set_other bs v left r c ];
}

-- and its block then has no wanted record that stands in it alone
pub erase-safe : (bs : List (List Chunk)) (v : ℕ) (left : List Chunk) → v < length bs → Unique (standing bs) → SafeAct bs (erasing v) → Left (get_or bs v []) left → SafeAct (set bs v left) (erasing v)
erase-safe bs v left inside q safe l r a t =
    let b : Among r (records_of left) = subst (λ (z : List Chunk). Among r (records_of z)) (get_or-set_same bs v left [] inside) a in
    let t' : wanted (standing bs) r ≡ true = (shrunk-keeps (standing bs) (standing (set bs v left)) q (erase-shrunk bs v left safe l)).asked r (set-in bs v left r inside b) t in
    subst (λ (z : List (List Chunk)). Among r (standing z)) (sym (set_twice bs v left [])) (grind (arith, left-from))

pub erase-good : (w n p : ℕ) (bs : List (List Chunk)) (v : ℕ) (left : List Chunk) → Good w n p bs → v < n → SafeAct bs (erasing v) → Left (get_or bs v []) left → Good w n p (set bs v left)
erase-good w n p bs v left g vn safe l =
    good-shrunk w n p bs (set bs v left) g (sized_set n p bs v left (sized w n p bs g.shape) (left-long (get_or bs v []) left l)) sh (v, vn, load-none (set bs v left) v (erase-safe bs v left inside g.unique safe l))
  where
    sh : Shrunk (standing bs) (standing (set bs v left))
    sh = erase-shrunk bs v left safe l

    inside : v < length bs
    inside = grind arith

-- a program, done or failed, of a copy
abbrev pub Leaves : Record → Chunk → Type 0
Leaves r left = (left ≡ Holds r) ⊎ ((left ≡ Damaged) ⊎ (left ≡ Blank))

pub copy-same : (bs : List (List Chunk)) (b c : ℕ) (r : Record) (left : Chunk) → Among r (standing bs) → get_or (get_or bs b []) c Damaged ≡ Blank → Leaves r left → Same (standing bs) (standing (put_at bs b c left))
copy-same bs b c r left a e l = record {
  to = λ s d. put_keeps bs b c left s e d;
  from = grind (arith, put-cases, is_copy);
}

-- a block other than v, all of whose records stand in v
abbrev pub Backed : ℕ → List (List Chunk) → ℕ → Type 0
Backed n bs v = (i : ℕ) × (i < n) × (i ≡ v → ⊥) × ((r : Record) → Among r (records_of (get_or bs i [])) → Among r (records_of (get_or bs v [])))

pub backed-way : (n : ℕ) (bs : List (List Chunk)) (v : ℕ) → Backed n bs v → Way n bs
backed-way n bs v h =
    let i : ℕ = h.0 in
    (i, h.1, load-none bs i (λ r a t. now-in (set bs i []) v r (subst (λ (z : List Chunk). Among r (records_of z)) (sym (get_or-set_other bs i v [] [] (λ e. h.2 (sym e)))) (h.3 r a))))

pub backed-put : (n : ℕ) (bs : List (List Chunk)) (v b c : ℕ) (r : Record) (left : Chunk) → b < length bs → (v ≡ b → ⊥) → Among r (records_of (get_or bs v [])) → Leaves r left → Backed n bs v → Backed n (put_at bs b c left) v
backed-put n bs v b c r left inside apart here l h = (h.0, h.1, h.2, into)
  where
    same : get_or (set bs b (set (get_or bs b []) c left)) v [] ≡ get_or bs v []
    same = grind (arith, get_or-set_other)

    copy : (x : Record) → left ≡ Holds x → Among x (records_of (get_or bs v []))
    copy x e = grind arith

    into : (x : Record) → Among x (records_of (get_or (put_at bs b c left) h.0 [])) → Among x (records_of (get_or (put_at bs b c left) v []))
    into x a =
        subst (λ (z : List Chunk). Among x (records_of z)) (sym same)
        (elim (cases_eq h.0 b) [
          | inl e ↦ elim (chunk-cases (get_or bs b []) c left x (subst (λ (z : List Chunk). Among x (records_of z)) (ap (λ (z : ℕ). get_or (put_at bs b c left) z []) e ∙ get_or-set_same bs b (set (get_or bs b []) c left) [] inside) a)) [
            | inl f ↦ copy x f
            | inr d ↦ h.3 x (subst (λ (z : ℕ). Among x (records_of (get_or bs z []))) (sym e) d)
          ]
          | inr q ↦ h.3 x (subst (λ (z : List Chunk). Among x (records_of z)) (get_or-set_other bs b h.0 (set (get_or bs b []) c left) [] q) a)
        ])

pub record Broke (w n p : ℕ) (s : Flash) (bs' : List (List Chunk)) : Type 0 where
  pub good : Good w n p bs'
  pub shrunk : Shrunk (standing s.blocks) (standing bs')

-- the copies of a block's records, of which one fails
module _ (w n p v : ℕ) where
  pub record Copying (s : Flash) (k : ℕ) : Type 0 where
    pub good : Good w n p s.blocks
    pub sound : Sound p s
    pub closed : get_or s.stand v blank_s ≡ closed_s
    pub room : RoomFor p s k
    pub backed : Backed n s.blocks v

  -- one copy
  module _ (s : Flash) (r : Record) (k : ℕ) (h : Copying s (suc k)) (here : Among r (records_of (get_or s.blocks v []))) where
    place : Next p s k r
    place = next p s h.sound k r h.room

    apart : v ≡ place.b → ⊥
    apart e = grind arith

    inside : place.b < length s.blocks
    inside = grind arith

    one-good : (left : Chunk) → Leaves r left → Good w n p (put_at s.blocks place.b place.c left)
    one-good left l =
        good-shrunk w n p s.blocks _ h.good (sized-put n p s.blocks place.b place.c left (sized w n p s.blocks h.good.shape))
        (grind (arith, same-shrunk, one_same))
        (backed-way n _ v (backed-put n s.blocks v place.b place.c r left inside apart here l h.backed))
      where
        one_same : (left : Chunk) → Leaves r left → Same (standing s.blocks) (standing (put_at s.blocks place.b place.c left))
        one_same left l = copy-same s.blocks place.b place.c r left (now-in s.blocks v r here) place.at.free l

    one-shrunk : (left : Chunk) → Leaves r left → Shrunk (standing s.blocks) (standing (put_at s.blocks place.b place.c left))
    one-shrunk left l = same-shrunk (standing s.blocks) _ (copy-same s.blocks place.b place.c r left (now-in s.blocks v r here) place.at.free l)

    kept : get_or (programmed s place.b place.c r).blocks v [] ≡ get_or s.blocks v []
    unfolding programmed
    kept = get_or-set_other s.blocks place.b v _ [] apart

    then' : Copying (programmed s place.b place.c r) k
    unfolding programmed
    then' = record {
      good = one-good (Holds r) (inl refl);
      sound = place.sound;
      closed = grind (arith, get_or-set_other, place, apart);
      room = place.room;
      backed = backed-put n s.blocks v place.b place.c r (Holds r) inside apart here (inl refl) h.backed;
    }

    blocks-are : (programmed s place.b place.c r).blocks ≡ put_at s.blocks place.b place.c (Holds r)
    unfolding programmed
    blocks-are = refl

  shrunk-trans : (s : Flash) (r : Record) (k : ℕ) (h : Copying s (suc k)) (here : Among r (records_of (get_or s.blocks v []))) (bs' : List (List Chunk))
      → Broke w n p (programmed s (place s r k h here).b (place s r k h here).c r) bs' → Broke w n p s bs'
  shrunk-trans s r k h here bs' b =
      let bs₁ : List (List Chunk) = (programmed s (place s r k h here).b (place s r k h here).c r).blocks in
      let sm : Same (standing s.blocks) (standing bs₁) =
      subst (λ (z : List (List Chunk)). Same (standing s.blocks) (standing z)) (sym (blocks-are s r k h here))
      (copy-same s.blocks (place s r k h here).b (place s r k h here).c r (Holds r) (now-in s.blocks v r here) (place s r k h here).at.free (inl refl)) in
      record {
        good = b.good;
        shrunk = record {
          from = λ x a. sm.from x (b.shrunk.from x a);
          kept = λ x a t. b.shrunk.kept x (sm.to x a) (grind (arith, wanted_same));
        };
      }

  pub copies-break : (rs : List Record) (s : Flash) → Copying s (length rs) → ((r : Record) → Among r rs → Among r (records_of (get_or s.blocks v []))) → (x : Act) (bs' : List (List Chunk)) → Breaks s (copies s rs) x bs' → Broke w n p s bs'
  copies-break [] s h here x bs' m = absurd m
  copies-break (r ∷ rs) s h here x bs' m =
      go (grind (arith, q))
      (copies-break rs (programmed s q.b q.c r) (grind (arith, then'))
      (grind (arith, kept)) x bs')
    where
      q : Next p s (length rs) r
      q = place s r (length rs) h (here r (inl refl))

      go : Breaks s (copying q.b q.c r ∷ copies (programmed s q.b q.c r) rs) x bs'
          → (Breaks (programmed s q.b q.c r) (copies (programmed s q.b q.c r) rs) x bs' → Broke w n p (programmed s q.b q.c r) bs') → Broke w n p s bs'
      go (inl f) ih =
          let left : Chunk = f.1.0 in
          subst (Broke w n p s) (sym f.1.2) (record { good = one-good s r (length rs) h (here r (inl refl)) left f.1.1; shrunk = grind (arith, one-shrunk) })
      go (inr d) ih = grind (arith, shrunk-trans)
