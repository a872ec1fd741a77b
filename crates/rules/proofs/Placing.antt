-- A cleaning, and the acts that add a record: done or failed, the contents stay such as mount accepts. Assumes nothing.
use Rattle.std.proofs.Common.{◌≡◌, ℕ, zero, suc, ◌+◌, ◌<◌, ◌≤◌, Bool, true, false, cond, not, leb, ◌⊎◌, List, [], ◌∷◌, ◌++◌, length, get_or, set, replicate, Some, None, Option, sym, refl, ap, ◌∙◌, subst, inl, inr, arith, length-set, get_or-set_other, get_or-set_same}
use Rattle.std.proofs.lemmas.Bool.{leb-true}
use Rattle.flash.specs.declared.chunks.Record.{Record}
use Rattle.rules.specs.Lists.{Among, or_else, first_where, count}
use Rattle.rules.specs.Places.{is_blank_s, is_open_s, Flash, Act, adding, copying, erasing, runs, programmed, load, load_list, copy_at, least, better, to_clean, clean, copies, add_place, open_place, blank_place, start_of, is_program, does}
use Rattle.rules.specs.Mounting.{sizes_fit}
use Rattle.rules.specs.Laws.{Shrunk, Left}
use Rattle.rules.specs.Safety.{SafeAct, Sound, RoomFor}
use Rattle.rules.specs.Machine.{Breaks}
use Rattle.rules.specs.Runs.{Takes, TakesAll}
use Rattle.flash.specs.declared.chunks.Chunk.{Chunk}
use Rattle.flash.specs.declared.chunks.Chunk.TheVariants.{Blank, Holds}
use Rattle.flash.specs.Blocks.{records_of, standing, all_blank}
use Rattle.rules.specs.declared.standings.Standing.{Standing}
use Rattle.rules.specs.declared.standings.Standing.TheVariants.{Blank as blank_s, Open as open_s, Closed as closed_s}
use Rattle.rules.proofs.Copies.{wanted_same}
use Rattle.rules.proofs.Failing.{left-blank}
use Rattle.rules.proofs.Cleaning.{Where, found, found_at, Spot, spot, open_is_lem, blank-is, Copied, least_at, Next, next, done, erasable, closed_in, in_load, runs_append, first-blank, blanks-all, all_tail}
use Rattle.rules.proofs.Tidy.{Tidy, pair_is, Opened, open-place, none-opened, first-opened, tidy-copies, tidy-erase}
use Rattle.rules.proofs.Keeping.{Good, Sized, sized, sized_set, sized-put, same-shrunk, good-shrunk, load-none, erase-shrunk, erase-good, Broke, copies-break}

pub closed-blank : closed_s ≡ blank_s → ⊥
closed-blank e = cc

pub blank-open : blank_s ≡ open_s → ⊥
blank-open e = cc

-- sizes
pub sizes-view : (n p : ℕ) → sizes_fit n p ≡ true → (3 ≤ n) × (2 ≤ p)
sizes-view n p e = grind arith

-- the block of least load
abbrev LowAt : (ℕ → ℕ) → ℕ → List Standing → Option (ℕ × ℕ) → Type 0
LowAt f b ss None = (i : ℕ) → get_or ss i blank_s ≡ closed_s → ⊥
LowAt f b ss (Some q) = (q.1 ≡ f q.0) × ((i : ℕ) → get_or ss i blank_s ≡ closed_s → q.1 ≤ f (b + i))

low-shift : (f : ℕ → ℕ) (b : ℕ) (x : Standing) (ss : List Standing) → (x ≡ closed_s → ⊥) → (m : Option (ℕ × ℕ)) → LowAt f (suc b) ss m → LowAt f b (x ∷ ss) m
low-shift f b x ss n k h = grind arith

low-better : (f : ℕ → ℕ) (b : ℕ) (ss : List Standing) (m : Option (ℕ × ℕ)) → LowAt f (suc b) ss m → LowAt f b (closed_s ∷ ss) (better b (f b) m)
low-better f b ss k h = grind arith

low-at : (f : ℕ → ℕ) (ss : List Standing) (b : ℕ) → LowAt f b ss (least f b ss)
low-at f [] b = grind arith
low-at f (blank_s ∷ ss) b = grind (arith, low-at f ss (suc b), low-shift)
low-at f (open_s ∷ ss) b = search (arith, low-at f ss (suc b))
low-at f (closed_s ∷ ss) b = low-better f b ss (least f (suc b) ss) (low-at f ss (suc b))

-- the block that a cleaning takes
pub record Taken (s : Flash) (v l : ℕ) : Type 0 where
  pub closed : get_or s.stand v blank_s ≡ closed_s
  pub is_load : l ≡ load s.blocks v
  pub low : (i : ℕ) → get_or s.stand i blank_s ≡ closed_s → l ≤ load s.blocks i

pub taken_is : (s : Flash) (v l : ℕ) → to_clean s ≡ Some (v, l) → Taken s v l
unfolding to_clean
taken_is s v l e = grind (arith, least_at, low-at)

pub some-taken : (s : Flash) (i : ℕ) → get_or s.stand i blank_s ≡ closed_s → (v : ℕ) × (l : ℕ) × (to_clean s ≡ Some (v, l))
unfolding to_clean
some-taken s i c = go (least (load s.blocks) 0 s.stand) refl (low-at (load s.blocks) s.stand 0)
  where
    go : (m : Option (ℕ × ℕ)) → least (load s.blocks) 0 s.stand ≡ m → LowAt (load s.blocks) 0 s.stand m → (v : ℕ) × (l : ℕ) × (least (load s.blocks) 0 s.stand ≡ Some (v, l))
    go None e h = absurd (h i c)
    go (Some q) e h = (q.0, q.1, e)

-- runs
sized-runs : (n p : ℕ) (acts : List Act) (s : Flash) → Sized n p s.blocks → Sized n p (runs s acts).blocks
unfolding programmed
sized-runs n p [] s h = h
sized-runs n p (adding b c r ∷ acts) s h = sized-runs n p acts (programmed s b c r) (sized-put n p s.blocks b c (Holds r) h)
sized-runs n p (copying b c r ∷ acts) s h = sized-runs n p acts (programmed s b c r) (sized-put n p s.blocks b c (Holds r) h)
sized-runs n p (erasing b ∷ acts) s h = sized-runs n p acts (does s (erasing b)) (sized_set n p s.blocks b (all_blank (get_or s.blocks b [])) h (blank-long (get_or s.blocks b [])))
  where
    blank-long : (cs : List Chunk) → length (all_blank cs) ≡ length cs
    blank-long [] = refl
    blank-long (c ∷ cs) = ap suc (blank-long cs)

pub breaks-append : (acts more : List Act) (s : Flash) (x : Act) (bs' : List (List Chunk)) → Breaks s (acts ++ more) x bs' → Breaks s acts x bs' ⊎ Breaks (runs s acts) more x bs'
breaks-append [] more s x bs' m = inr m
breaks-append (a ∷ acts) more s x bs' (inl f) = inl (inl f)
breaks-append (a ∷ acts) more s x bs' (inr m) = grind (arith, breaks-append acts more (does s a) x bs' m)

pub count-append : {A : Type 0} (t : A → Bool) (xs ys : List A) → count t (xs ++ ys) ≡ count t xs + count t ys
count-append t [] ys = omega arith
count-append t (x ∷ xs) ys = omega (arith, count-append t xs ys)

-- what else holds of contents and standings while the store runs
pub record Live (p : ℕ) (s : Flash) : Type 0 where
  pub sound : Sound p s
  pub tidy : Tidy p s
  pub spare : (b : ℕ) → first_where is_open_s s.stand ≡ Some b → (i : ℕ) × (first_where is_blank_s s.stand ≡ Some i)

pub first-there : {A : Type 0} (t : A → Bool) (xs : List A) (i : ℕ) (d : A) → i < length xs → t (get_or xs i d) ≡ true → (k : ℕ) × (first_where t xs ≡ Some k)
first-there {A} t xs i d l e = go (first_where t xs) refl (found t xs)
  where
    go : (m : Option ℕ) → first_where t xs ≡ m → Where t xs m → (k : ℕ) × (first_where t xs ≡ Some k)
    go k f h = grind arith

pub none-recs : (p : ℕ) (r : Record) → Among r (records_of (replicate p Blank)) → ⊥
none-recs zero r a = a
none-recs (suc p) r a = none-recs p r a

all-blank-is : (cs : List Chunk) → all_blank cs ≡ replicate (length cs) Blank
all-blank-is [] = refl
all-blank-is (c ∷ cs) = grind (arith, all-blank-is cs)

-- the chip takes a program at the first blank chunk
pub takes-spot : (n p : ℕ) (bs : List (List Chunk)) (b c : ℕ) (r : Record) → Sized n p bs → b < n → Spot (get_or bs b []) c → Takes n p bs (copying b c r)
takes-spot n p bs b c r z l at = (l, (let e = at.left r in let f = z.each b l in omega arith), λ j h k. at.rest j h (let f = z.each b l in omega arith))

pub takes-append : (n p : ℕ) (acts more : List Act) (s : Flash) → TakesAll n p s acts → TakesAll n p (runs s acts) more → TakesAll n p s (acts ++ more)
takes-append n p [] more s a b = b
takes-append n p (x ∷ acts) more s a b = (a.0, takes-append n p acts more (does s x) a.1 b)

sized-programmed : (n p : ℕ) (s : Flash) (b c : ℕ) (r : Record) → Sized n p s.blocks → Sized n p (programmed s b c r).blocks
unfolding programmed
sized-programmed n p s b c r z = sized-put n p s.blocks b c (Holds r) z

takes-copies : (n p m : ℕ) (rs : List Record) (s : Flash) → Sound p s → Sized n p s.blocks → RoomFor p s (length rs + m) → TakesAll n p s (copies s rs)
takes-copies n p m [] s ok z room = tt
takes-copies n p m (r ∷ rs) s ok z room =
    let q : Next p s (length rs + m) r = next p s ok (length rs + m) r (subst (RoomFor p s) (let e : suc (length rs) + m ≡ suc (length rs + m) = omega arith in e) room) in
    subst (λ (x : Option (ℕ × ℕ)). TakesAll n p s (copy_at r x ++ copies (runs s (copy_at r x)) rs)) (sym q.is) (
      takes-spot n p s.blocks q.b q.c r z (omega arith) q.at,
      takes-copies n p m rs (programmed s q.b q.c r) q.sound (sized-programmed n p s q.b q.c r z) q.room,
    )

-- one cleaning
pub record Cleaned (w n p : ℕ) (s : Flash) (acts : List Act) (l : ℕ) : Type 0 where
  pub good : Good w n p (runs s acts).blocks
  pub live : Live p (runs s acts)
  pub spare : (i : ℕ) × (first_where is_blank_s (runs s acts).stand ≡ Some i)
  pub shrunk : Shrunk (standing s.blocks) (standing (runs s acts).blocks)
  pub breaks : (x : Act) (bs' : List (List Chunk)) → Breaks s acts x bs' → Broke w n p s bs'
  pub programs : count is_program acts ≡ l
  pub erases : count (λ a. not (is_program a)) acts ≡ 1
  pub takes : TakesAll n p s acts

abbrev pub HasBlank : Flash → Type 0
HasBlank s = (i : ℕ) × (first_where is_blank_s s.stand ≡ Some i)

module _ (w n p : ℕ) (s : Flash) (g : Good w n p s.blocks) (lv : Live p s) (v l : ℕ) (tk : Taken s v l) (how : (l ≡ 0) ⊎ (HasBlank s × (l ≤ p))) where
  room : RoomFor p s (load s.blocks v)
  room = grind arith

  abbrev moved : List Record
  moved = load_list s.blocks v

  abbrev copied' : Flash
  copied' = runs s (copies s (load_list s.blocks v))

  dn : Copied p 0 s copied' v moved (copies s moved)
  dn = done p s lv.sound g.unique v tk.closed room

  safe : SafeAct copied'.blocks (erasing v)
  safe = erasable p s lv.sound g.unique v tk.closed room

  vn : v < n
  vn = grind (arith, closed_in)

  good₁ : Good w n p copied'.blocks
  good₁ = good-shrunk w n p s.blocks copied'.blocks g (sized-runs n p (copies s moved) s (sized w n p s.blocks g.shape)) (grind (arith, same-shrunk, copied', dn)) (v, vn, load-none copied'.blocks v safe)

  abbrev end : Flash
  end = does copied' (erasing v)

  good₂ : Good w n p end.blocks
  good₂ = search (arith, erase-good, good₁, vn, safe, left-blank)

  v_stand : v < length copied'.stand
  v_stand = (closed_in copied'.stand v dn.closed).0

  v_blocks : v < length copied'.blocks
  v_blocks = grind (arith, v_stand, dn)

  new_stand : (d : Standing) → get_or end.stand v d ≡ blank_s
  new_stand d = get_or-set_same copied'.stand v blank_s d v_stand

  new_block : get_or end.blocks v [] ≡ replicate p Blank
  new_block = grind (arith, get_or-set_same, v_blocks, all-blank-is, good₁)

  sound₂ : Sound p end
  sound₂ = grind (arith, new_block, get_or-set_other, dn, new_stand, length-set)

  tidy₂ : Tidy p end
  unfolding load
  tidy₂ = tidy-erase p copied' v (tidy-copies p 0 moved s lv.sound lv.tidy (grind (arith, moved, room))) v_stand

  spare₂ : (i : ℕ) × (first_where is_blank_s end.stand ≡ Some i)
  spare₂ = first-there is_blank_s end.stand v blank_s (grind (arith, length-set, copied', v_stand)) (ap is_blank_s (new_stand blank_s))

  shrunk-erase : (left : List Chunk) → Left (get_or copied'.blocks v []) left → Shrunk (standing s.blocks) (standing (set copied'.blocks v left))
  shrunk-erase left q =
      let h = erase-shrunk copied'.blocks v left safe q in
      record {
        from = λ r a. dn.same.from r (h.from r a);
        kept = λ r a t. h.kept r (dn.same.to r a) (grind (arith, wanted_same, copied', dn));
      }

  no_copies : (rs : List Record) (x : Act) (bs' : List (List Chunk)) → length rs ≡ 0 → Breaks s (copies s rs) x bs' → ⊥
  no_copies [] x bs' e m = m
  no_copies (r ∷ rs) x bs' e m = omega arith

  copy-break : (x : Act) (bs' : List (List Chunk)) → Breaks s (copies s moved) x bs' → (l ≡ 0) ⊎ (HasBlank s × (l ≤ p)) → Broke w n p s bs'
  unfolding load
  copy-break x bs' m (inl z) = absurd (no_copies moved x bs' (sym tk.is_load ∙ z) m)
  copy-break x bs' m (inr h) =
      copies-break w n p v moved s
      (grind (arith, room, i, i_in, iv, into))
      (in_load s.blocks v) x bs' m
    where
      i : ℕ
      i = h.0.0

      fa : (i < length s.stand) × ((d : Standing) → is_blank_s (get_or s.stand i d) ≡ true)
      fa = found_at is_blank_s s.stand i h.0.1

      i_in : i < n
      i_in = grind (arith, fa)

      iv : i ≡ v → ⊥
      iv e = closed-blank (grind (arith, blank-is, fa))

      into : (r : Record) → Among r (records_of (get_or s.blocks i [])) → Among r (records_of (get_or s.blocks v []))
      into r a = absurd (grind (arith, none-recs, i, blank-is, fa))

  erase-break : (x : Act) (bs' : List (List Chunk)) → Breaks copied' (erasing v ∷ []) x bs' → Broke w n p s bs'
  erase-break x bs' (inl f) =
      subst (Broke w n p s) (sym f.1.2) (record { good = erase-good w n p copied'.blocks v f.1.0 good₁ vn safe f.1.1; shrunk = shrunk-erase f.1.0 f.1.1 })
  erase-break x bs' (inr m) = absurd m

  ends : runs s (copies s moved ++ (erasing v ∷ [])) ≡ end
  ends = grind (arith, runs_append)

  base : Cleaned w n p s (copies s moved ++ (erasing v ∷ [])) l
  unfolding load
  base = record {
    good = grind (arith, ends, good₂);
    live = grind (arith, ends, sound₂, tidy₂, spare₂);
    spare = grind (arith, ends, spare₂);
    shrunk = grind (arith, ends, shrunk-erase, copied', left-blank);
    breaks = λ x bs' m. elim (breaks-append (copies s moved) (erasing v ∷ []) s x bs' m) [ inl d ↦ copy-break x bs' d how | inr d ↦ erase-break x bs' d ];
    programs = grind (arith, dn, count-append, moved);
    erases = (grind (arith, dn, count-append, moved));
    takes = takes-append n p (copies s moved) (erasing v ∷ []) s (takes-copies n p 0 moved s lv.sound (sized w n p s.blocks g.shape) (grind (arith, moved, room))) (vn, tt);
  }

  pub cleaned : to_clean s ≡ Some (v, l) → Cleaned w n p s (clean s) l
  unfolding clean
  cleaned e = grind (arith, base)

-- the place of a record to add: in the open block or in a blank one, and another block is blank
pub record PlaceIs (s : Flash) (b c : ℕ) : Type 0 where
  pub inside : b < length s.stand
  pub at : Spot (get_or s.blocks b []) c
  pub only : (i : ℕ) → get_or s.stand i closed_s ≡ open_s → i ≡ b
  pub other : ℕ
  pub apart : other ≡ b → ⊥
  pub other_in : other < length s.stand
  pub other_blank : (d : Standing) → get_or s.stand other d ≡ blank_s

pub second : {A : Type 0} (t : A → Bool) (xs : List A) (k : ℕ) → 2 ≤ count t xs → (i : ℕ) × (i ≡ k → ⊥) × (i < length xs) × ((d : A) → t (get_or xs i d) ≡ true)
second t [] k l = absurd (omega arith)
second {A} t (x ∷ xs) zero l = (let h = first (omega (arith, most (t x))) in (suc h.0, λ e. omega arith, (omega arith), h.2))
  where
    most : (b : Bool) → cond b 1 0 ≤ 1
    most k = grind arith

    any' : (ys : List A) → 1 ≤ count t ys → (i : ℕ) × (i < length ys) × ((d : A) → t (get_or ys i d) ≡ true)
    any' [] m = absurd (omega arith)
    any' (y ∷ ys) m = go (t y) refl m (any' ys)
      where
        go : (b : Bool) → t y ≡ b → 1 ≤ cond b 1 0 + count t ys → (1 ≤ count t ys → (i : ℕ) × (i < length ys) × ((d : A) → t (get_or ys i d) ≡ true)) → (i : ℕ) × (i < length (y ∷ ys)) × ((d : A) → t (get_or (y ∷ ys) i d) ≡ true)
        go true e q ih = (0, omega arith, λ d. e)
        go false e q ih = (let h = ih (omega arith) in (suc h.0, (omega arith), h.2))

    first : 1 ≤ count t xs → (i : ℕ) × (i < length xs) × ((d : A) → t (get_or xs i d) ≡ true)
    first m = any' xs m
second {A} t (x ∷ xs) (suc k) l = go (t x) refl l (second t xs k)
  where
    go : (b : Bool) → t x ≡ b → 2 ≤ cond b 1 0 + count t xs → (2 ≤ count t xs → (i : ℕ) × (i ≡ k → ⊥) × (i < length xs) × ((d : A) → t (get_or xs i d) ≡ true))
        → (i : ℕ) × (i ≡ suc k → ⊥) × (i < length (x ∷ xs)) × ((d : A) → t (get_or (x ∷ xs) i d) ≡ true)
    go true e q ih = grind arith
    go false e q ih = (let h = ih (omega arith) in (suc h.0, (λ z. h.1 (omega arith)), (omega arith), h.3))

blank-spot : (p : ℕ) (s : Flash) → Sound p s → 1 ≤ p → (i : ℕ) → first_where is_blank_s s.stand ≡ Some i → Spot (get_or s.blocks i []) 0
blank-spot p s ok one i e = grind (arith, found_at, first-blank, spot, all_tail, blanks-all)

pub place_is : (p : ℕ) (s : Flash) → Live p s → 1 ≤ p → (b c : ℕ) → add_place s ≡ Some (b, c) → PlaceIs s b c
unfolding add_place blank_place
place_is p s lv one b c e = go (open_place s) (open-place p s lv.sound) e
  where
    at : (b' c' : ℕ) → b' ≡ b → c' ≡ c → PlaceIs s b' c' → PlaceIs s b c
    at b' c' x y h = grind arith

    two : first_where is_open_s s.stand ≡ None → (z : Bool) → leb 2 (count is_blank_s s.stand) ≡ z → (m : Option ℕ) → first_where is_blank_s s.stand ≡ m → cond z (start_of m) None ≡ Some (b, c) → PlaceIs s b c
    two g false f m d h = cc
    two g true f None d h = cc
    two g true f (Some k) d h =
        let q = pair_is (k, 0) (b, c) h in
        let fa = found_at is_blank_s s.stand k d in
        let x = second is_blank_s s.stand k (leb-true 2 _ f) in
        at k 0 q.0 q.1 (record { inside = fa.0; at = blank-spot p s lv.sound one k d; only = λ i y. absurd (none-opened s g i y); other = x.0; apart = x.1; other_in = x.2; other_blank = λ y. blank-is _ (x.3 y) })

    go : (m : Option (ℕ × ℕ)) → Opened s m → or_else m (cond (leb 2 (count is_blank_s s.stand)) (start_of (first_where is_blank_s s.stand)) None) ≡ Some (b, c) → PlaceIs s b c
    go None h d = grind (arith, two)
    go (Some q) h d =
        let z = pair_is q (b, c) d in
        let fa = found_at is_open_s s.stand q.0 h.0 in
        let sp = lv.spare q.0 h.0 in
        let fb = found_at is_blank_s s.stand sp.0 sp.1 in
        at q.0 q.1 z.0 z.1 (grind (arith, at, first-opened, blank-open, blank-is, open_is_lem))

pub no_place : (p : ℕ) (s : Flash) → Sound p s → add_place s ≡ None → (first_where is_open_s s.stand ≡ None) × ((i : ℕ) → first_where is_blank_s s.stand ≡ Some i → count is_blank_s s.stand ≤ 1)
unfolding add_place blank_place
no_place p s ok e = go (open_place s) (open-place p s ok) e
  where
    go : (m : Option (ℕ × ℕ)) → Opened s m → or_else m (cond (leb 2 (count is_blank_s s.stand)) (start_of (first_where is_blank_s s.stand)) None) ≡ None
        → (first_where is_open_s s.stand ≡ None) × ((i : ℕ) → first_where is_blank_s s.stand ≡ Some i → count is_blank_s s.stand ≤ 1)
    go k h d = grind arith
