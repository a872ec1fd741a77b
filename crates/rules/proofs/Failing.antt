-- Wherever the supply fails in a cleaning, the files are as they were. Assumes nothing.
use Rattle.std.proofs.Common.{◌≡◌, ℕ, List, [], ◌∷◌, ◌++◌, get_or, sym, refl, ap, ◌∙◌, inl, inr, arith}
use Rattle.flash.specs.declared.chunks.Record.{Record}
use Rattle.rules.specs.Lists.{Among}
use Rattle.rules.specs.Reading.{files}
use Rattle.rules.specs.Places.{Flash, Act, adding, copying, erasing, programmed, clean, copies, copy_at, copy_place, runs, does}
use Rattle.rules.specs.Laws.{Unique, Left}
use Rattle.rules.specs.Safety.{SafeRun, MayHold, CleaningKeepsFiles}
use Rattle.flash.specs.declared.chunks.Chunk.{Chunk}
use Rattle.flash.specs.declared.chunks.Chunk.TheVariants.{Holds}
use Rattle.flash.specs.Blocks.{all_blank, records_of, standing, put_at, erase_at}
use Rattle.rules.proofs.Blocks.{copying-keeps-files, erase-files, put-cases, set_cases, now-other}
use Rattle.rules.proofs.Cleaning.{cleaning-is-safe}

-- no act of a cleaning adds
abbrev pub Quiet : List Act → Type 0
Quiet [] = Unit {0}
Quiet (adding b c r ∷ more) = ⊥
Quiet (copying b c r ∷ more) = Quiet more
Quiet (erasing b ∷ more) = Quiet more

pub quiet-append : (acts more : List Act) → Quiet acts → Quiet more → Quiet (acts ++ more)
quiet-append [] more a b = b
quiet-append (adding _ _ _ ∷ acts) more a b = absurd a
quiet-append (copying _ _ _ ∷ acts) more a b = quiet-append acts more a b
quiet-append (erasing _ ∷ acts) more a b = quiet-append acts more a b

pub quiet-copies : (rs : List Record) (s : Flash) → Quiet (copies s rs)
quiet-copies [] s = tt
quiet-copies (r ∷ rs) s = grind (arith, quiet-copies rs (runs s (copy_at r (copy_place s))), quiet-append)

pub quiet-clean : (s : Flash) → Quiet (clean s)
unfolding clean
quiet-clean s = grind (arith, quiet-append, quiet-copies)

pub left-blank : (cs : List Chunk) → Left cs (all_blank cs)
left-blank [] = tt
left-blank (c ∷ cs) = (inr (inr refl), left-blank cs)

pub blank_none : (cs : List Chunk) (r : Record) → Among r (records_of (all_blank cs)) → ⊥
blank_none [] r a = a
blank_none (c ∷ cs) r a = blank_none cs r a

-- one serial stays one record
pub unique-copy : (bs : List (List Chunk)) (b c : ℕ) (r : Record) → Unique (standing bs) → Among r (standing bs) → Unique (standing (put_at bs b c (Holds r)))
unique-copy bs b c r q here x y ax ay e = grind (arith, put-cases)

pub unique-erase : (bs : List (List Chunk)) (b : ℕ) → Unique (standing bs) → Unique (standing (erase_at bs b))
unique-erase bs b q x y ax ay e = grind (arith, set_cases, blank_none, now-other)

pub safe-files : (acts : List Act) (s : Flash) → SafeRun s acts → Quiet acts → Unique (standing s.blocks) → (bs' : List (List Chunk)) → MayHold s acts bs' → (o : ℕ) → files (standing s.blocks) o ≡ files (standing bs') o
unfolding programmed
safe-files [] s safe quiet q bs' m o = grind arith
safe-files (adding b c r ∷ more) s safe quiet q bs' m o = absurd quiet
safe-files (copying b c r ∷ more) s safe quiet q bs' (inl f) o =
    copying-keeps-files s.blocks b c r q safe.0.0 safe.0.1 f.0 f.1 o ∙ ap (λ (z : List (List Chunk)). files (standing z) o) (sym f.2)
safe-files (copying b c r ∷ more) s safe quiet q bs' (inr m) o =
    copying-keeps-files s.blocks b c r q safe.0.0 safe.0.1 (Holds r) (inl refl) o
    ∙ safe-files more (programmed s b c r) safe.1 quiet (unique-copy s.blocks b c r q safe.0.0) bs' m o
safe-files (erasing b ∷ more) s safe quiet q bs' (inl f) o = search (arith, erase-files)
safe-files (erasing b ∷ more) s safe quiet q bs' (inr m) o =
    erase-files s.blocks b (all_blank (get_or s.blocks b [])) q (left-blank (get_or s.blocks b [])) safe.0 o
    ∙ safe-files more (does s (erasing b)) safe.1 quiet (unique-erase s.blocks b q) bs' m o

pub cleaning-keeps-files : CleaningKeepsFiles
cleaning-keeps-files p s ok q room bs' m o = safe-files (clean s) s (cleaning-is-safe p s ok q room) (quiet-clean s) q bs' m o
