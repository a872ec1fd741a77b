-- What an image is as a whole. Assumes nothing.
use Rattle.std.specs.Prelude.{◌≡◌, ℕ, ◌-◌, List, ◌++◌, Ok, Err, codes, decimal, Result}
use Rattle.flash.specs.declared.chips.Chip.{Ghosts}
use Rattle.flash.specs.Model.{State, blocks_of}
use Rattle.image.specs.declared.images.ImageChip.{ImageChip}
use Rattle.image.specs.Format.{misfit, image_of}
use Rattle.lines.specs.Heads.{head_line}
use Rattle.questions.specs.declared.counts.Totals.{Totals}
use Rattle.questions.specs.Counts.{Counted}
use Rattle.rules.specs.Mounting.{verdict, mounted}
use Rattle.scan.specs.declared.refusals.Refusal.{Refusal}
use Rattle.scan.specs.Mounts.{verdict_of}
use Rattle.scan.specs.Words.{refusal_text}
use Rattle.store.specs.declared.stores.Store.{Store}
use Rattle.texts.specs.declared.stops.Stop.{Stop}

-- what there is in all on a chip of n blocks that was just mounted: every block that is not blank is closed
abbrev pub totals_text : Totals → ℕ → List ℕ
totals_text t n =
    (codes "files: " ++ (decimal t.files ++ codes "\n"))
    ++ ((codes "chunks used: " ++ (decimal t.used ++ (codes " of " ++ (decimal t.limit ++ codes "\n"))))
    ++ ((codes "blocks: " ++ (decimal t.blank ++ (codes " blank, " ++ (decimal (n - t.blank) ++ codes " closed\n"))))
    ++ (codes "highest serial: " ++ (decimal t.serial ++ codes "\n"))))

-- what is told of a mount that accepted, or refused
abbrev pub AnswerTold : State → Result (Unit {0}) Refusal → List ℕ → Type 0
AnswerTold s (Ok u) text = (t : Totals) × Counted s (mounted (blocks_of s)).stand t × (text ≡ codes "mount: accepted\n" ++ totals_text t s.n)
AnswerTold s (Err e) text = text ≡ codes "mount: refused: " ++ (refusal_text e ++ codes "\n")

-- mount's answer, by its verdict, and what is told of it
pub record VerdictTold (s : State) (text : List ℕ) : Type 0 where
  pub answer : Result (Unit {0}) Refusal
  pub verdict_is : verdict_of answer ≡ verdict s.n s.p (blocks_of s)
  pub told : AnswerTold s answer text

-- after the sizes and the power
pub record IsInfo (xs text : List ℕ) : Type 0 where
  pub image : misfit xs ≡ 0
  pub more : List ℕ
  pub told : VerdictTold (image_of xs) more
  pub is : text ≡ head_line (image_of xs).n (image_of xs).p (image_of xs).on ++ more

-- a mount of the store, told after what stands there
abbrev pub MountTold : {chip : Ghosts ImageChip} → Store ImageChip chip → ℕ → List ℕ → Result (Unit {0}) Stop → List ℕ → Type 0
MountTold {chip = c} s n was (Ok u) is = (c.model s.chip).n ≡ n → (more : List ℕ) × VerdictTold (c.model s.chip) more × (is ≡ was ++ more)
MountTold s n was (Err e) is = Unit {0}
