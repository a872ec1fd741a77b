-- The acts that add a record: they end, with the record added; wherever the supply fails in them, mount accepts the contents. Assumes nothing.
use Rattle.std.proofs.Common.{◌≡◌, ℕ, zero, suc, ◌+◌, ◌*◌, ◌<◌, ◌≤◌, Bool, true, not, ◌⊎◌, List, [], ◌∷◌, ◌++◌, length, get_or, Some, None, Option, sym, refl, ap, ◌∙◌, subst, inl, inr, arith, length-set, get_or-set_other, set}
use mathlib.Core.Path.{fun_ext}
use lib.ListN.{get_or-eq_default}
use Rattle.std.proofs.lemmas.Bool.{cases_eq, cases_lt}
use Rattle.flash.specs.declared.chunks.Record.{Record}
use Rattle.rules.specs.Lists.{Among, first_where, count}
use Rattle.rules.specs.Records.{keeps_rules}
use Rattle.rules.specs.Reading.{files, used, Files, used_by}
use Rattle.rules.specs.Places.{is_blank_s, is_open_s, Flash, Act, adding, runs, programmed, to_clean, clean, add_place, is_program, add_or, plan}
use Rattle.rules.specs.Mounting.{limit}
use Rattle.rules.specs.Calls.{Call, record_by}
use Rattle.rules.specs.Right.{accepted}
use Rattle.rules.specs.Laws.{Unique, Same, Shrunk, Allowed}
use Rattle.rules.specs.Safety.{Failed}
use Rattle.rules.specs.Machine.{Breaks}
use Rattle.rules.specs.Runs.{TakesAll, Finds}
use Rattle.flash.specs.declared.chunks.Chunk.{Chunk}
use Rattle.flash.specs.declared.chunks.Chunk.TheVariants.{Holds}
use Rattle.flash.specs.Blocks.{standing, put_at, records_of}
use Rattle.rules.specs.declared.standings.Standing.{Standing}
use Rattle.rules.specs.declared.standings.Standing.TheVariants.{Blank as blank_s, Closed as closed_s}
use Rattle.rules.proofs.Blocks.{put_keeps, put-cases}
use Rattle.rules.proofs.Copies.{files_same}
use Rattle.rules.proofs.Shrinking.{shrunk-files}
use Rattle.rules.proofs.Changes.{adding-is-right}
use Rattle.rules.proofs.Counting.{used-by-files}
use Rattle.rules.proofs.Room.{some-block-is-light}
use Rattle.rules.proofs.Cleaning.{Where, found, found_at, sound_after, blank-is, runs_append, adding-stands, cleaning-makes-a-place}
use Rattle.rules.proofs.Filed.{there-some}
use Rattle.rules.proofs.Tidy.{tidy-program}
use Rattle.rules.proofs.Keeping.{FilesOk, Way, Good, files-ok, Sized, sized, sized-put, good-shrunk, load-none, Leaves, Broke}
use Rattle.rules.proofs.Placing.{breaks-append, count-append, first-there, none-recs, sizes-view, Taken, taken_is, some-taken, Live, Cleaned, cleaned, takes-spot, takes-append, HasBlank, PlaceIs, place_is, no_place}

-- a change's record, files and bounds, as its checks leave them
pub record Fit (w n p k : ℕ) (fs : Files) (call : Call) : Type 0 where
  pub rules : keeps_rules (record_by w k fs call) ≡ true
  pub bytes' : length (record_by w k fs call).bytes ≡ w
  pub serial' : (record_by w k fs call).tag.serial ≡ k
  pub filed : FilesOk n p (accepted fs call)
  pub allowed : (rs : List Record) → ((o : ℕ) → files rs o ≡ fs o) → Allowed rs call

-- on the way to the place
pub record Stage (w n p k : ℕ) (fs : Files) (s : Flash) : Type 0 where
  pub good : Good w n p s.blocks
  pub live : Live p s
  pub below : (r : Record) → Among r (standing s.blocks) → r.tag.serial < k
  pub same : (o : ℕ) → files (standing s.blocks) o ≡ fs o

-- contents with the record, or without it
pub record Added (w n p k : ℕ) (fs : Files) (call : Call) (bs : List (List Chunk)) : Type 0 where
  pub good : Good w n p bs
  pub either : (Among (record_by w k fs call) (standing bs) × ((o : ℕ) → files (standing bs) o ≡ accepted fs call o))
      ⊎ ((Among (record_by w k fs call) (standing bs) → ⊥) × ((o : ℕ) → files (standing bs) o ≡ fs o))

pub stage-next : (w n p k : ℕ) (fs : Files) (s : Flash) (acts : List Act) (l : ℕ) → Stage w n p k fs s → Cleaned w n p s acts l → Stage w n p k fs (runs s acts)
stage-next w n p k fs s acts l st c = record {
  good = c.good;
  live = c.live;
  below = λ r a. st.below r (c.shrunk.from r a);
  same = grind (arith, shrunk-files);
}

module _ (w n p k : ℕ) (fs : Files) (call : Call) (fit : Fit w n p k fs call) where
  abbrev rec : Record
  rec = record_by w k fs call

  -- a state whose contents have only lost what was not wanted
  broke-added : (s : Flash) → Stage w n p k fs s → (bs' : List (List Chunk)) → Broke w n p s bs' → Added w n p k fs call bs'
  broke-added s st bs' b = record {
    good = b.good;
    either = inr (
      (λ a. let l : rec.tag.serial < k = st.below rec (b.shrunk.from rec a) in omega arith),
      λ o. sym (grind (arith, shrunk-files)) ∙ st.same o,
    );
  }

  -- the record put at its place
  module _ (s : Flash) (st : Stage w n p k fs s) (b c : ℕ) (pl : PlaceIs s b c) where
    in_blocks : b < length s.blocks
    in_blocks = grind arith

    other_n : pl.other < n
    other_n = grind arith

    way_on : (x : Chunk) → Way n (put_at s.blocks b c x)
    way_on x = (
      pl.other,
      other_n,
      load-none (put_at s.blocks b c x) pl.other
          (λ r a t. absurd (none-recs p r (subst (λ (z : List Chunk). Among r (records_of z))
          (get_or-set_other s.blocks b pl.other (set (get_or s.blocks b []) c x) [] pl.apart ∙ st.live.sound.blank_is pl.other (pl.other_blank closed_s)) a))),
    )

    size' : (x : Chunk) → Sized n p (put_at s.blocks b c x)
    size' x = search (arith, sized-put)

    abbrev whole : List (List Chunk)
    whole = put_at s.blocks b c (Holds rec)

    stands : Same (rec ∷ standing s.blocks) (standing whole)
    stands = grind (arith, adding-stands, rec)

    low : (x : Record) → Among x (standing s.blocks) → x.tag.serial ≡ rec.tag.serial → ⊥
    low x a e = search arith

    unique' : Unique (rec ∷ standing s.blocks)
    unique' x y (inl p) (inl q) e = sym p ∙ q
    unique' x y (inl p) (inr q) e = absurd (low y q (grind arith))
    unique' x y (inr p) (inl q) e = absurd (low x p (grind arith))
    unique' x y (inr p) (inr q) e = st.good.unique x y p q e

    right' : (o : ℕ) → files (standing whole) o ≡ accepted fs call o
    right' o =
        sym (files_same (rec ∷ standing s.blocks) (standing whole) unique' stands o)
        ∙ subst (λ (gs : Files). files (record_by w k gs call ∷ standing s.blocks) o ≡ accepted gs call o) (fun_ext st.same)
        (grind (arith, adding-is-right))

    whole-good : Good w n p whole
    whole-good = record {
      sizes = st.good.sizes;
      shape = record { blocks' = (size' (Holds rec)).many; chunks = (size' (Holds rec)).each; bytes' = λ r a. byte r (stands.from r a) };
      rules = λ r a. rule r (stands.from r a);
      unique = λ x y a b e. unique' x y (stands.from x a) (stands.from y b) e;
      filed = files-ok n p (accepted fs call) (files (standing whole)) (λ o. sym (right' o)) fit.filed;
      way = way_on (Holds rec);
    }
      where
        byte : (r : Record) → Among r (rec ∷ standing s.blocks) → length r.bytes ≡ w
        byte r k = grind arith

        rule : (r : Record) → Among r (rec ∷ standing s.blocks) → keeps_rules r ≡ true
        rule r k = grind arith

    put_whole : Added w n p k fs call whole
    put_whole = record { good = whole-good; either = inl (stands.to rec (inl refl), right') }

    put-not : (x : Chunk) → ((r : Record) → x ≡ Holds r → ⊥) → Added w n p k fs call (put_at s.blocks b c x)
    put-not x never = broke-added s st (put_at s.blocks b c x) (record { good = good-shrunk w n p s.blocks _ st.good (size' x) sh (way_on x); shrunk = sh })
      where
        sh : Shrunk (standing s.blocks) (standing (put_at s.blocks b c x))
        sh = record {
          from = grind (arith, put-cases);
          kept = λ r a t. put_keeps s.blocks b c x r pl.at.free a;
        }

    put-any : (bs' : List (List Chunk)) → Failed s.blocks (adding b c rec) bs' → Added w n p k fs call bs'
    put-any bs' f = subst (Added w n p k fs call) (sym f.2) (at f.0 f.1)
      where
        at : (x : Chunk) → Leaves rec x → Added w n p k fs call (put_at s.blocks b c x)
        at x (inl e) = grind (arith, put_whole)
        at x (inr (inl e)) = put-not x (λ r f. cc)
        at x (inr (inr e)) = put-not x (λ r f. cc)

    live-after : Live p (programmed s b c rec)
    live-after = record { sound = sound_after p s st.live.sound b c rec pl.inside pl.at; tidy = grind (arith, tidy-program, rec); spare = λ d e. spare' }
      where
        still : get_or (programmed s b c rec).stand pl.other blank_s ≡ blank_s
        still = unfold programmed in get_or-set_other s.stand b pl.other _ blank_s pl.apart ∙ pl.other_blank blank_s

        spare' : (i : ℕ) × (first_where is_blank_s (programmed s b c rec).stand ≡ Some i)
        spare' = first-there is_blank_s (programmed s b c rec).stand pl.other blank_s (unfold programmed in subst (λ (z : ℕ). pl.other < z) (sym (length-set s.stand b _)) pl.other_in) (ap is_blank_s still)

  -- acts that add the record, from a state on the way
  pub record Ends (s : Flash) (acts : List Act) (m e : ℕ) : Type 0 where
    pub good : Good w n p (runs s acts).blocks
    pub live : Live p (runs s acts)
    pub right' : (o : ℕ) → files (standing (runs s acts).blocks) o ≡ accepted fs call o
    pub breaks : (x : Act) (bs' : List (List Chunk)) → Breaks s acts x bs' → Added w n p k fs call bs'
    pub least : 1 ≤ count is_program acts
    pub programs : count is_program acts ≤ m
    pub erases : count (λ a. not (is_program a)) acts ≤ e
    pub finds : Finds s acts (record_by w k fs call)
    pub takes : TakesAll n p s acts

  ends-add : (s : Flash) → Stage w n p k fs s → (b c : ℕ) → PlaceIs s b c → add_place s ≡ Some (b, c) → Ends s (adding b c rec ∷ []) 1 0
  ends-add s st b c pl q = record {
    good = unfold programmed in whole-good s st b c pl;
    live = live-after s st b c pl;
    right' = unfold programmed in right' s st b c pl;
    breaks = λ x bs' m. elim m [ inl f ↦ put-any s st b c pl bs' f.1 | inr z ↦ absurd z ];
    least = omega arith;
    programs = omega arith;
    erases = omega arith;
    finds = record { cleaned = []; before = s; block = b; chunk = c; cleanings = refl; place = q; done = refl; programs = omega arith; erases = omega arith };
    takes = (takes-spot n p s.blocks b c rec (sized w n p s.blocks st.good.shape) (grind (arith, in_blocks)) pl.at, tt);
  }

  ends-clean : (s : Flash) → Stage w n p k fs s → (more : List Act) (v l m e : ℕ) → add_place s ≡ None → to_clean s ≡ Some (v, l) → Cleaned w n p s (clean s) l → Ends (runs s (clean s)) more m e → Ends s (clean s ++ more) (l + m) (suc e)
  ends-clean s st more v l m e none tq c h = record {
    good = grind (arith, app);
    live = subst (Live p) (sym app) h.live;
    right' = grind (arith, app);
    breaks = λ x bs' d. elim (breaks-append (clean s) more s x bs' d) [ inl f ↦ broke-added s st bs' (c.breaks x bs' f) | inr f ↦ h.breaks x bs' f ];
    least = (grind (arith, count-append));
    programs = (grind (arith, count-append));
    erases = (grind (arith, count-append));
    finds = record {
      cleaned = (v, l) ∷ h.finds.cleaned;
      before = h.finds.before;
      block = h.finds.block;
      chunk = h.finds.chunk;
      cleanings = (grind (arith, taken_is));
      place = h.finds.place;
      done = app ∙ h.finds.done;
      programs = (grind (arith, count-append));
      erases = (grind (arith, count-append));
    };
    takes = grind (arith, takes-append);
  }
    where
      app : runs s (clean s ++ more) ≡ runs (runs s (clean s)) more
      app = runs_append (clean s) more s

  ends-weaken : (s : Flash) (acts : List Act) (m m' e e' : ℕ) → m ≤ m' → e ≤ e' → Ends s acts m e → Ends s acts m' e'
  ends-weaken s acts m m' e e' a b h = grind arith

-- a block that is neither open nor blank is closed
none-at : {A : Type 0} (t : A → Bool) (xs : List A) → first_where t xs ≡ None → (i : ℕ) (d : A) → i < length xs → t (get_or xs i d) ≡ true → ⊥
none-at t xs e = grind (arith, found)

two-count : {A : Type 0} (t : A → Bool) (xs : List A) (i k : ℕ) (d : A) → (i ≡ k → ⊥) → i < length xs → k < length xs → t (get_or xs i d) ≡ true → t (get_or xs k d) ≡ true → 2 ≤ count t xs
two-count t [] i k d n a b e f = absurd (omega arith)
two-count t (x ∷ xs) zero zero d n a b e f = absurd (n refl)
two-count t (x ∷ xs) zero (suc k) d n a b e f = grind (arith, Rattle.rules.proofs.Cleaning.count-some)
two-count t (x ∷ xs) (suc i) zero d n a b e f = search (arith, Rattle.rules.proofs.Cleaning.count-some)
two-count t (x ∷ xs) (suc i) (suc k) d n a b e f = omega (arith, two-count t xs i k d (λ z. n (ap suc z)) (omega arith) (omega arith) e f)

limit-room : (n p u : ℕ) → 2 ≤ n → 1 ≤ p → u ≤ limit n p → u + p < n * p
unfolding limit
limit-room k p u a b h = grind arith

-- with one blank block and none open, the block of least load has room left
module _ (w n p : ℕ) (s : Flash) (g : Good w n p s.blocks) (lv : Live p s) where
  pub closed_at : first_where is_open_s s.stand ≡ None → (i : ℕ) → i < n → (get_or s.stand i blank_s ≡ blank_s → ⊥) → get_or s.stand i blank_s ≡ closed_s
  closed_at none i l b = grind (arith, none-at)

  pub light : first_where is_open_s s.stand ≡ None → (k : ℕ) → first_where is_blank_s s.stand ≡ Some k → count is_blank_s s.stand ≤ 1 → (v : ℕ) × (l : ℕ) × (to_clean s ≡ Some (v, l)) × (l < p)
  light none k e one = elim (cases_lt l p) [ inl a ↦ (v, l, tq.2, a) | inr a ↦ absurd (heavy a) ]
    where
      sz : (3 ≤ n) × (2 ≤ p)
      sz = sizes-view n p g.sizes

      long : length s.stand ≡ n
      long = grind arith

      fa : (k < length s.stand) × ((d : Standing) → is_blank_s (get_or s.stand k d) ≡ true)
      fa = found_at is_blank_s s.stand k e

      not-blank : (i : ℕ) → i < n → (i ≡ k → ⊥) → get_or s.stand i blank_s ≡ blank_s → ⊥
      not-blank i a q f = (let b = long in omega (arith, two-count is_blank_s s.stand i k blank_s q (omega arith) fa.0 (ap is_blank_s f) (fa.1 blank_s)))

      shut : (i : ℕ) → i < n → (i ≡ k → ⊥) → get_or s.stand i blank_s ≡ closed_s
      shut i a q = closed_at none i a (not-blank i a q)

      some : (i : ℕ) × (get_or s.stand i blank_s ≡ closed_s)
      some = elim (cases_eq 0 k) [
        | inl q ↦ (1, shut 1 (let a = sz.0 in omega arith) (λ z. omega arith))
        | inr q ↦ (0, shut 0 (omega arith) q)
      ]

      tq : (v : ℕ) × (l : ℕ) × (to_clean s ≡ Some (v, l))
      tq = some-taken s some.0 some.1

      v : ℕ
      v = tq.0

      l : ℕ
      l = tq.1

      tk : Taken s tq.0 tq.1
      tk = taken_is s tq.0 tq.1 tq.2

      short : (i : ℕ) → length (get_or s.blocks i []) ≤ p
      short i = grind (arith, get_or-eq_default)

      room' : used (standing s.blocks) + p < length s.blocks * p
      room' =
          let u : used_by (files (standing s.blocks)) ≡ used (standing s.blocks) = used-by-files (standing s.blocks) g.unique g.rules in
          subst (λ (z : ℕ). used (standing s.blocks) + p < z * p) (sym g.shape.blocks')
          (grind (arith, limit-room, sz))

      heavy : p ≤ l → ⊥
      heavy h =
          some-block-is-light s.blocks k p
          (λ r a. none-recs p r (grind (arith, blank-is, fa)))
          short room'
          (grind (arith, tk, shut))

  -- with none blank and none open, a closed block has load 0
  pub idle : first_where is_open_s s.stand ≡ None → first_where is_blank_s s.stand ≡ None → (v : ℕ) × (to_clean s ≡ Some (v, 0))
  idle none nob = (grind (arith, tq, zero'))
    where
      i : ℕ
      i = g.way.0

      cl : get_or s.stand i blank_s ≡ closed_s
      cl = grind (arith, closed_at, none-at)

      tq : (v : ℕ) × (l : ℕ) × (to_clean s ≡ Some (v, l))
      tq = some-taken s i cl

      zero' : tq.1 ≡ 0
      zero' = (grind (arith, taken_is, tq, i, cl))

-- the plan ends with the record added: one cleaning at most where a block is blank, else two
module _ (w n p k : ℕ) (fs : Files) (call : Call) (fit : Fit w n p k fs call) where
  abbrev ours : Record
  ours = record_by w k fs call

  small : (s : Flash) → Stage w n p k fs s → 2 ≤ p
  small s st = grind arith

  plan-here : (j : ℕ) (s : Flash) → Stage w n p k fs s → (q : ℕ × ℕ) → add_place s ≡ Some q → Ends w n p k fs call fit s (plan (suc j) s ours) 1 0
  plan-here j s st q e =
      subst (λ (z : Option (ℕ × ℕ)). Ends w n p k fs call fit s (add_or ours z (clean s ++ plan j (runs s (clean s)) ours)) 1 0) (sym e)
      (ends-add w n p k fs call fit s st q.0 q.1 (place_is p s st.live (let a = small s st in omega arith) q.0 q.1 e) e)

  plan-clean : (j : ℕ) (s : Flash) → Stage w n p k fs s → add_place s ≡ None → (v l m e : ℕ) → to_clean s ≡ Some (v, l) → Cleaned w n p s (clean s) l → Ends w n p k fs call fit (runs s (clean s)) (plan j (runs s (clean s)) ours) m e
      → Ends w n p k fs call fit s (plan (suc j) s ours) (l + m) (suc e)
  plan-clean j s st none v l m e tq c h =
      subst (λ (z : Option (ℕ × ℕ)). Ends w n p k fs call fit s (add_or ours z (clean s ++ plan j (runs s (clean s)) ours)) (l + m) (suc e)) (sym none)
      (ends-clean w n p k fs call fit s st (plan j (runs s (clean s)) ours) v l m e none tq c h)

  plan-spare : (j : ℕ) (s : Flash) → Stage w n p k fs s → HasBlank s → Ends w n p k fs call fit s (plan (suc (suc j)) s ours) p 1
  plan-spare j s st hb = go (add_place s) refl
    where
      go : (m : Option (ℕ × ℕ)) → add_place s ≡ m → Ends w n p k fs call fit s (plan (suc (suc j)) s ours) p 1
      go (Some q) e = ends-weaken w n p k fs call fit s _ 1 p 0 1 (let a = small s st in omega arith) (omega arith) (plan-here (suc j) s st q e)
      go None e =
          let np = no_place p s st.live.sound e in
          let lt = light w n p s st.good st.live np.0 hb.0 hb.1 (np.1 hb.0 hb.1) in
          let v : ℕ = lt.0 in
          let l : ℕ = lt.1 in
          let tk = taken_is s lt.0 lt.1 lt.2 in
          let c : Cleaned w n p s (clean s) lt.1 = cleaned w n p s st.good st.live lt.0 lt.1 tk (inr (hb, (omega arith))) lt.2 in
          let th = there-some (add_place (runs s (clean s))) (cleaning-makes-a-place p s st.live.sound hb (lt.0, lt.1) lt.2 (grind arith)) in
          ends-weaken w n p k fs call fit s _ (lt.1 + 1) p 1 1 (omega arith) (omega arith)
          (plan-clean (suc j) s st e lt.0 lt.1 1 0 lt.2 c (plan-here j (runs s (clean s)) (stage-next w n p k fs s (clean s) lt.1 st c) th.0 th.1))

  pub plan-ends : (j : ℕ) (s : Flash) → Stage w n p k fs s → Ends w n p k fs call fit s (plan (suc (suc (suc j))) s ours) p 2
  plan-ends j s st = go (first_where is_blank_s s.stand) refl (add_place s) refl
    where
      go : (b : Option ℕ) → first_where is_blank_s s.stand ≡ b → (m : Option (ℕ × ℕ)) → add_place s ≡ m → Ends w n p k fs call fit s (plan (suc (suc (suc j))) s ours) p 2
      go (Some i) f m e = ends-weaken w n p k fs call fit s _ p p 1 2 (omega arith) (omega arith) (plan-spare (suc j) s st (i, f))
      go None f (Some q) e = ends-weaken w n p k fs call fit s _ 1 p 0 2 (let a = small s st in omega arith) (omega arith) (plan-here (suc (suc j)) s st q e)
      go None f None e =
          let np = no_place p s st.live.sound e in
          let id = idle w n p s st.good st.live np.0 f in
          let c : Cleaned w n p s (clean s) 0 = cleaned w n p s st.good st.live id.0 0 (taken_is s id.0 0 id.1) (inl refl) id.1 in
          ends-weaken w n p k fs call fit s _ (0 + p) p 2 2 (omega arith) (omega arith)
          (plan-clean (suc (suc j)) s st e id.0 0 p 1 id.1 c (plan-spare j (runs s (clean s)) (stage-next w n p k fs s (clean s) 0 st c) c.spare))
