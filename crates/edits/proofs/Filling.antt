-- An open file filled, chunk by chunk. Assumes nothing.
use Rattle.std.proofs.Common.{◌≡◌, ◌≢◌, ℕ, zero, suc, ◌+◌, ◌-◌, ◌*◌, ◌≤◌, ◌<◌, min, max, Bool, true, false, not, ◌&&◌, cond, ◌==◌, ◌⊎◌, List, [], ◌∷◌, ◌++◌, length, take, drop, Some, None, Option, Ok, Err, nat_le, refl, sym, ap, ◌∙◌, subst, inl, inr, arith, length-drop}
use Rattle.std.proofs.lemmas.Bool.{both_ways, eqb-true, eqb-false, not-false}
use Rattle.std.proofs.lemmas.Grind.{div_ceil_times}
use Rattle.std.proofs.lemmas.List.{take_min, drop-drop, drop_all}
use Rattle.std.proofs.lemmas.Nat.{mul-le}
use Rattle.std.proofs.Math.Nat.{add-mul}
use Rattle.cleaning.specs.declared.adds.Counts.{Counts}
use Rattle.rules.specs.Calls.{put}
use Rattle.rules.specs.Lists.{within}
use Rattle.rules.specs.Machine.{Step, counted}
use Rattle.rules.specs.Reading.{File, files}
use Rattle.rules.specs.Refusals.{Store, recs, refusal, first_of, early_table, room_table, no_serial, too_many}
use Rattle.rules.specs.Right.{changed, with_part}
use Rattle.rules.specs.Runs.{Holds}
use Rattle.rules.proofs.Checks.{clear-all}
use Rattle.scan.specs.declared.refusals.Refusal.{Refusal}
use Rattle.scan.specs.Refusals.{told}
use Rattle.store.specs.Changes.{Changed}
use Rattle.edits.specs.Puts.{chunks_in, chunk_of, Unwritten}
use Rattle.edits.specs.Creating.{Turned}
use Rattle.edits.specs.Writing.{trimmed, Trims, with_chunks, Filled, with_content, Written}
use Rattle.edits.proofs.Turning.{turned_step, turned_none, turned_twice, costs_few, few_chunks, changed_none, same_file}
use Rattle.edits.proofs.Trimming.{none_at_0}

-- no chunk yet
no-chunk : (j : ℕ) → within 1 0 j ≡ false
no-chunk j = grind arith

none-yet : (content : List ℕ) (m : Option File) → with_chunks content 0 m ≡ m
none-yet content None = refl
none-yet content (Some f) = same_file f.name (max f.long 0) f.long _ f.part (omega arith) (λ j. ap (λ (b : Bool). cond b (Some (chunk_of content j)) (f.part j)) (no-chunk j))

pub fill_none : (s : Store) (o : ℕ) (content : List ℕ) → Holds 2048 s → s.running ≡ true → Filled s o content 0 (record { programs = 0; erases = 0 }) s
fill_none s o content h on = record {
  turned = turned_none s _ h on (changed_none (files (recs s)) o (with_chunks content 0) (none-yet content (files (recs s) o)));
  opened' = refl;
  few = omega arith;
  least = omega arith;
  most = omega arith;
  erases = omega arith;
}

-- one chunk more
within-last : (k : ℕ) → within 1 (k + 1) (k + 1) ≡ true
within-last k = grind arith

within-more : (k j : ℕ) → j ≢ k + 1 → within 1 k j ≡ within 1 (k + 1) j
within-more k j n = grind arith

part-more : (content bs : List ℕ) (p : ℕ → Option (List ℕ)) (k j : ℕ) → bs ≡ chunk_of content (k + 1) → (b : Bool) → (j == (k + 1)) ≡ b
    → cond b (Some bs) (cond (within 1 k j) (Some (chunk_of content j)) (p j)) ≡ cond (within 1 (k + 1) j) (Some (chunk_of content j)) (p j)
part-more content bs p k j e true q =
    let same : j ≡ k + 1 = eqb-true j (k + 1) q in
    let there : within 1 (k + 1) j ≡ true = ap (within 1 (k + 1)) same ∙ within-last k in
    let bytes' : bs ≡ chunk_of content j = e ∙ ap (chunk_of content) (sym same) in
    rw there (ap Some bytes')
part-more content bs p k j e false q = ap (λ (b : Bool). cond b (Some (chunk_of content j)) (p j)) (within-more k j (eqb-false j (k + 1) q))

chunks-more : (content bs : List ℕ) (k : ℕ) (m : Option File) → bs ≡ chunk_of content (k + 1) → with_part (k + 1) bs (with_chunks content k m) ≡ with_chunks content (k + 1) m
chunks-more content bs k None e = refl
chunks-more content bs k (Some f) e = same_file f.name _ _ _ _ (omega arith) (λ j. part-more content bs f.part k j e (j == (k + 1)) refl)

in-1000 : (j : ℕ) → within 1 1000 j ≡ true → j ≤ 1000
in-1000 j e = grind arith

pub put_few : (u : Store) (o j : ℕ) (bs : List ℕ) → refusal u (put o j bs) ≡ 0 → j ≤ 1000
put_few u o j bs e = in-1000 j (not-false _ (clear-all (early_table u (put o j bs) ++ room_table u (put o j bs)) (omega arith) e).1.0)

more-most : (a b n p : ℕ) → a ≤ n * p → b ≤ p → a + b ≤ (n + 1) * p
more-most a b n p h k = let e = add-mul n 1 p in omega (arith, e, h, k)

pub fill_more : (s u t : Store) (o : ℕ) (content bs : List ℕ) (n : ℕ) (c x : Counts) → Filled s o content n c u → bs ≡ chunk_of content (n + 1)
    → Step 2048 u (put o (n + 1) bs) (counted x.programs x.erases) t → Filled s o content (n + 1) (record { programs = c.programs + x.programs; erases = c.erases + x.erases }) t
fill_more s u t o content bs n c x f e st =
    let k = costs_few u t (put o (n + 1) bs) x.programs x.erases f.turned.holds st in
    let one : Turned u (changed (files (recs u)) o (with_part (n + 1) bs)) t = turned_step u t (put o (n + 1) bs) x.programs x.erases _ f.turned.holds f.turned.running st (λ j. refl) in
    record {
      turned = turned_twice s u t o (with_part (n + 1) bs) (with_chunks content n) (with_chunks content (n + 1)) f.turned one (chunks-more content bs n (files (recs s) o) e);
      opened' = ap (λ (z : Store). z.opened) st.3 ∙ f.opened';
      few = put_few u o (n + 1) bs st.1;
      least = let a = f.least in omega (arith, a, k);
      most = more-most c.programs x.programs n s.p f.most (let e' = f.turned.same_p in omega (arith, e', k));
      erases = let a = f.erases in omega (arith, a, k);
    }

-- what is added up stays small
small-product : (n p : ℕ) → n ≤ 1001 → p ≤ 64 → n * p ≤ 64064
small-product n p a b = mul-le n p 1001 64 a b

pub sum_small : (s : Store) (n a b : ℕ) → Holds 2048 s → n ≤ 1001 → a ≤ n * s.p → b ≤ s.p → a + b < 1000000
sum_small s n a b h few x y = let p = few_chunks s h in let q = small-product n s.p few p in omega (arith, p, q, x, y)

-- something is left
pub some_left : (n : ℕ) → false ≡ (n == 0) → 0 < n
some_left zero e = absurd (both_ways (0 == 0) (sym e) refl)
some_left (suc n) e = omega arith

-- the bytes of a chunk
pub chunk_is : (content rest : List ℕ) (n k : ℕ) → rest ≡ drop (n * 2048) content → k ≡ min (length rest) 2048 → take k rest ≡ chunk_of content (n + 1)
chunk_is content rest n k e q =
    let at : n + 1 - 1 ≡ n = omega arith in
    let m : k ≡ min 2048 (length rest) = omega (arith, q) in
    ap (λ (i : ℕ). take i rest) m ∙ take_min 2048 rest ∙ ap (take 2048) (e ∙ ap (λ (i : ℕ). drop (i * 2048) content) (sym at))

-- and what is left after it
pub rest_is : (content rest : List ℕ) (n k : ℕ) → rest ≡ drop (n * 2048) content → k ≡ min (length rest) 2048 → 0 < length rest → drop k rest ≡ drop ((n + 1) * 2048) content
rest_is content rest n k e q some = rest-at (nat_le 2048 (length rest)) refl
  where
    long : length rest ≡ length content - n * 2048
    long = ap length e ∙ length-drop (n * 2048) content

    next : (n + 1) * 2048 ≡ n * 2048 + 2048
    next = add-mul n 1 2048

    rest-at : (b : Bool) → nat_le 2048 (length rest) ≡ b → drop k rest ≡ drop ((n + 1) * 2048) content
    rest-at true l =
        let full : k ≡ 2048 = grind (arith, q, l) in
        ap (λ (i : ℕ). drop i rest) full ∙ ap (drop 2048) e ∙ drop-drop 2048 (n * 2048) content ∙ ap (λ (i : ℕ). drop i content) (sym next)
    rest-at false l =
        let few : length rest < 2048 = grind (arith, l) in
        let a : drop k rest ≡ [] = drop_all k rest (omega (arith, q, few)) in
        let b : drop ((n + 1) * 2048) content ≡ [] = drop_all ((n + 1) * 2048) content (omega (arith, long, next, few, some)) in
        a ∙ sym b

pub fill_room : (content rest : List ℕ) (n : ℕ) → rest ≡ drop (n * 2048) content → 0 < length rest → (n + 1) * 2048 < length content + 2048
fill_room content rest n e some = let long = ap length e ∙ length-drop (n * 2048) content in let next = add-mul n 1 2048 in omega (arith, long, next, some)

-- all chunks
pub fill_all : (content rest : List ℕ) (n : ℕ) → rest ≡ drop (n * 2048) content → length rest ≡ 0 → n * 2048 < length content + 2048 → n ≡ chunks_in content
fill_all content rest n e none room =
    let long = ap length e ∙ length-drop (n * 2048) content in
    let d = div_ceil_times (length content) 2048 (omega arith) in
    omega (arith, long, none, room, d)

more-chunks : (content rest : List ℕ) (n : ℕ) → rest ≡ drop (n * 2048) content → 0 < length rest → 1000 ≤ n → 1000 < chunks_in content
more-chunks content rest n e some big =
    let long = ap length e ∙ length-drop (n * 2048) content in
    let d = div_ceil_times (length content) 2048 (omega arith) in
    omega (arith, long, some, big, d)

-- refused
puts-table : (r big many op se tm : Bool) → r ≡ true → many ≡ false → op ≡ true
    → first_of ((15, not r) ∷ (17, big) ∷ (18, many) ∷ (24, not op) ∷ (26, se) ∷ (27, tm) ∷ []) ≡ first_of ((17, big) ∷ (26, se) ∷ (27, tm) ∷ [])
puts-table r big many op se tm a b c = rw (a, b, c) refl

three-left : (big se tm : Bool) → 1 ≤ first_of ((17, big) ∷ (26, se) ∷ (27, tm) ∷ [])
    → ((first_of ((17, big) ∷ (26, se) ∷ (27, tm) ∷ []) ≡ 17) × (big ≡ true)) ⊎ ((first_of ((17, big) ∷ (26, se) ∷ (27, tm) ∷ []) ≡ 27) ⊎ (first_of ((17, big) ∷ (26, se) ∷ (27, tm) ∷ []) ≡ 26))
three-left true se tm h = inl (refl, refl)
three-left false true tm h = inr (inr refl)
three-left false false true h = inr (inl refl)
three-left false false false h = absurd (omega (arith, h))

unwritten-by : (content : List ℕ) (e : Refusal) (k : ℕ) (big : Bool) → told e ≡ (k, []) → (big ≡ true → 1000 < chunks_in content) → ((k ≡ 17) × (big ≡ true)) ⊎ ((k ≡ 27) ⊎ (k ≡ 26)) → Unwritten content e
unwritten-by content e k big q f (inl h) = inl (q ∙ ap (λ (i : ℕ). (i, [])) h.0, f h.1)
unwritten-by content e k big q f (inr (inl h)) = inr (inl (q ∙ ap (λ (i : ℕ). (i, [])) h))
unwritten-by content e k big q f (inr (inr h)) = inr (inr (inl (q ∙ ap (λ (i : ℕ). (i, [])) h)))

many-ok : (k : ℕ) → 1 ≤ k → k ≤ 2048 → not (within 1 2048 k) ≡ false
many-ok k a b = grind arith

over-1000 : (n : ℕ) → not (within 1 1000 (n + 1)) ≡ true → 1000 ≤ n
over-1000 n e = grind arith

pub fill_not : (s u t : Store) (o : ℕ) (content rest bs : List ℕ) (n : ℕ) (c : Counts) (e : Refusal) → Filled s o content n c u → s.opened o ≡ true → rest ≡ drop (n * 2048) content → 0 < length rest
    → 1 ≤ length bs → length bs ≤ 2048 → Changed u (put o (n + 1) bs) (Err e) t → Unwritten content e × (t.opened ≡ s.opened)
fill_not s u t o content rest bs n c e f lent left some a b (inl r) =
    let big : Bool = not (within 1 1000 (n + 1)) in
    let se : Bool = no_serial (recs u) in
    let tm : Bool = too_many u (put o (n + 1) bs) in
    let q : refusal u (put o (n + 1) bs) ≡ first_of ((17, big) ∷ (26, se) ∷ (27, tm) ∷ [])
    = puts-table u.running big (not (within 1 2048 (length bs))) (u.opened o) se tm f.turned.running (many-ok (length bs) a b) (ap (λ (os : ℕ → Bool). os o) f.opened' ∙ lent) in (
      unwritten-by content e _ big (r.number ∙ ap (λ (i : ℕ). (i, [])) q) (λ z. more-chunks content rest n left some (over-1000 n z)) (three-left big se tm (subst (λ (i : ℕ). 1 ≤ i) q r.step.1)),
      ap (λ (z : Store). z.opened) r.step.2 ∙ f.opened',
    )
fill_not s u t o content rest bs n c e f lent left some a b (inr x) = (inr (inr (inr (_, x.names))), x.step.2.same_open ∙ f.opened')

-- filled and trimmed, the file has the bytes and no others
whole-at : {A : Type 0} (x y : Option A) (a b : Bool) → (a ≡ false → y ≡ None) → cond b (cond (a && b) x y) None ≡ cond (a && b) x None
whole-at x y true true e = refl
whole-at x y true false e = refl
whole-at x y false true e = e refl
whole-at x y false false e = refl

under-1 : (j : ℕ) → nat_le 1 j ≡ false → j ≡ 0
under-1 j e = grind arith

part-whole : (content : List ℕ) (n : ℕ) (p : ℕ → Option (List ℕ)) → p 0 ≡ None → (j : ℕ)
    → cond (nat_le j n) (cond (within 1 n j) (Some (chunk_of content j)) (p j)) None ≡ cond (within 1 n j) (Some (chunk_of content j)) None
part-whole content n p e j = whole-at (Some (chunk_of content j)) (p j) (nat_le 1 j) (nat_le j n) (λ q. ap p (under-1 j q) ∙ e)

whole : (s : Store) (o : ℕ) (content : List ℕ) (n : ℕ) (m : Option File) → files (recs s) o ≡ m → n ≡ chunks_in content → trimmed n (with_chunks content n m) ≡ with_content content m
whole s o content n None e q = refl
whole s o content n (Some f) e q =
    subst (λ (k : ℕ). trimmed n (with_chunks content n (Some f)) ≡ Some (record { name = f.name; long = k; part = λ j. cond (within 1 k j) (Some (chunk_of content j)) None })) q
    (same_file f.name (min (max f.long n) n) n _ _ (omega arith) (part-whole content n f.part (none_at_0 (recs s) o f e)))

pub refilled : (s u t : Store) (o : ℕ) (content : List ℕ) (n : ℕ) (c x : Counts) → Filled s o content n c u → n ≡ chunks_in content → Trims u o n (Ok x) t
    → Written s o content (record { programs = c.programs + x.programs; erases = c.erases + x.erases }) t × (t.opened ≡ s.opened)
refilled s u t o content n c x f q h = (
  record {
    turned = turned_twice s u t o (trimmed n) (with_chunks content n) (with_content content) f.turned h.0 (whole s o content n (files (recs s) o) refl q);
    few = let a = f.few in omega (arith, a, q);
    least = let a = f.least in omega (arith, a, q);
    most = subst (λ (k : ℕ). c.programs + x.programs ≤ (k + 1) * s.p) q (more-most c.programs x.programs n s.p f.most (let e' = f.turned.same_p in let k = h.2 in omega (arith, e', k)));
    erases = let a = f.erases in let k = h.3 in omega (arith, a, q, k);
  },
  h.1 ∙ f.opened',
)
