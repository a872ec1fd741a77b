-- What a mount answers to the chips of the demonstration. Assumes nothing.
use Rattle.std.proofs.Common.{◌≡◌, ℕ, ◌<◌, List, [], ◌∷◌, None, refl, sym, subst, ◌∙◌, arith}
use Rattle.flash.specs.declared.chunks.Chunk.{Chunk}
use Rattle.flash.specs.declared.chunks.Chunk.TheVariants.{Blank}
use Rattle.flash.specs.Model.{State, started, blocks_of, tab}
use Rattle.image.specs.Blanks.{BlankChip}
use Rattle.rules.specs.Calls.{Call}
use Rattle.rules.specs.Machine.{Event, last_of}
use Rattle.rules.specs.Mounting.{verdict, limit, two_named, no_way_on}
use Rattle.rules.specs.Reading.{Files, files, header, used_by, used_of, any_object}
use Rattle.rules.specs.Refusals.{Store}
use Rattle.rules.specs.Right.{after}
use Rattle.runs.specs.Law.{AllRight, MountAccepts, made}
use Rattle.texts.specs.declared.stops.Stop.{Stop}
use Rattle.texts.specs.declared.stops.Stop.TheVariants.{Memory, Refused, Store as Denied}
use Rattle.demos.specs.Demos.{Played, NotPlayed, NotTold}

abbrev blank-block : List Chunk
blank-block = Blank ∷ Blank ∷ Blank ∷ Blank ∷ []

abbrev blank-blocks : List (List Chunk)
blank-blocks = blank-block ∷ blank-block ∷ blank-block ∷ []

-- a blank chip is accepted
computes : verdict 3 4 blank-blocks ≡ None
unfolding limit two_named no_way_on files header used_by used_of any_object
computes = refl

block-blank : (cells : ℕ → Chunk) → ((c : ℕ) → c < 4 → cells c ≡ Blank) → tab cells 0 4 ≡ blank-block
unfolding tab
block-blank cells h = rw (h 0 (omega arith), h 1 (omega arith), h 2 (omega arith), h 3 (omega arith)) refl

blocks-blank : (blocks : ℕ → List Chunk) → ((b : ℕ) → b < 3 → blocks b ≡ blank-block) → tab blocks 0 3 ≡ blank-blocks
unfolding tab
blocks-blank blocks h = rw (h 0 (omega arith), h 1 (omega arith), h 2 (omega arith)) refl

-- mount's verdict is the same where sizes and contents are
abbrev Accepts : ℕ → ℕ → List (List Chunk) → Type 0
Accepts n p bs = verdict n p bs ≡ None

same : (n p m q : ℕ) (a b : List (List Chunk)) → n ≡ m → p ≡ q → a ≡ b → Accepts n p a → Accepts m q b
same n p m q a b en ep e h = subst (λ (k : ℕ). Accepts k q b) en (subst (λ (k : ℕ). Accepts n k b) ep (subst (λ (x : List (List Chunk)). Accepts n p x) e h))

same-blocks : (s : State) → s.n ≡ 3 → s.p ≡ 4 → blocks_of s ≡ tab (λ b. tab (λ c. s.cells b c) 0 4) 0 3
unfolding blocks_of
same-blocks s n p = rw (n, p) refl

pub blank_accepted : (s : State) → BlankChip 3 4 s → verdict s.n s.p (blocks_of s) ≡ None
blank_accepted s h =
    let filled = blocks-blank (λ b. tab (λ c. s.cells b c) 0 4) (λ b l. block-blank (λ c. s.cells b c) (λ c k. h.cells b c l k)) in
    same 3 4 s.n s.p blank-blocks (blocks_of s) (sym h.blocks) (sym h.chunks) (sym (same-blocks s h.blocks h.chunks ∙ filled)) computes

-- after a run that began with contents that mount accepts, it accepts them
accepted-after : (rights : Files) (s : Store) (es : List Event) → MountAccepts s → AllRight rights s es → MountAccepts (last_of s es)
accepted-after rights s [] m a = m
accepted-after rights s (e ∷ es) m a = accepted-after (after rights (made s e)) e.after es a.0.mount_accepts a.1

started-blocks : (s : State) → blocks_of (started s) ≡ blocks_of s
unfolding blocks_of
started-blocks s = refl

pub played_accepted : (s t u : State) (calls : List Call) (text : List ℕ) (left : Store) → Played s calls text t left → u ≡ started t → verdict u.n u.p (blocks_of u) ≡ None
played_accepted s t u calls text left h e =
    let law = h.ran.3.law in
    let c = h.chip in
    let m : MountAccepts left = subst MountAccepts law.ends (accepted-after _ _ law.events h.ran.0 law.all_right) in
    subst (λ (k : State). Accepts k.n k.p (blocks_of k)) (sym e) (same left.n left.p t.n t.p left.flash.blocks (blocks_of (started t)) c.n_same c.p_same (c.contents ∙ sym (started-blocks t)) m)

pub only_told : (s : State) (why : Stop) → verdict s.n s.p (blocks_of s) ≡ None → NotPlayed s why → NotTold why
only_told s Memory a h = tt
only_told s (Refused m) a h = h
only_told s (Denied e) a h = grind (arith, h, a)
