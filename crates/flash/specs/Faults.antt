-- The refusals of a chip: the number of each, and what it carries. Assumes nothing.
use Rattle.std.specs.Prelude.{ℕ, List, [], ◌∷◌}
use Rattle.flash.specs.declared.chunks.Place.{Place}
use Rattle.flash.specs.declared.faults.Purpose.{Purpose}
use Rattle.flash.specs.declared.faults.Purpose.TheVariants.{Adding as ToAdd, Copying as ToCopy}
use Rattle.flash.specs.declared.faults.Act.{Act}
use Rattle.flash.specs.declared.faults.Act.TheVariants.{Adding, Copying, Erasing}
use Rattle.flash.specs.declared.faults.Fault.{Fault}
use Rattle.flash.specs.declared.faults.Fault.TheVariants.{Off, NoSuchPlace, NotBlank, SupplyFailed, NoRecord}
use Rattle.flash.specs.declared.faults.Misfit.{Misfit}
use Rattle.flash.specs.declared.faults.Misfit.TheVariants.{Mark, Version, Length}

-- the act of a program, by what it is for
abbrev pub act_of : Purpose → Place → Act
act_of ToAdd q = Adding q
act_of ToCopy q = Copying q

-- what an act tells: 1 adding, 2 copying or 3 erasing, then the block and, of a program, the chunk
abbrev pub act_told : Act → List ℕ
act_told (Adding q) = 1 ∷ q.block ∷ q.chunk ∷ []
act_told (Copying q) = 2 ∷ q.block ∷ q.chunk ∷ []
act_told (Erasing b) = 3 ∷ b ∷ []

-- what a refusal tells: its number, and the values that it carries
abbrev pub Told : Type 0
Told = ℕ × List ℕ

abbrev pub told : Fault → Told
told Off = (4, [])
told NoSuchPlace = (5, [])
told NotBlank = (6, [])
told (SupplyFailed a) = (7, act_told a)
told NoRecord = (8, [])

-- why no chip could be made
abbrev pub misfit_number : Misfit → ℕ
misfit_number Mark = 1
misfit_number Version = 2
misfit_number Length = 3
