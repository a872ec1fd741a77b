-- The chip rules, the calls that write: program and erase, and every outcome of a supply failure. Assumes nothing.
use Rattle.std.specs.Prelude.{◌≡◌, ℕ, ◌<◌, ◌≤◌, Bool, true, false, ◌≢◌, ◌⊎◌, Ok, Err, Result}
use Rattle.flash.specs.declared.chunks.Record.{Record}
use Rattle.flash.specs.declared.chunks.Chunk.{Chunk}
use Rattle.flash.specs.declared.chunks.Chunk.TheVariants.{Blank, Damaged, Holds}
use Rattle.flash.specs.declared.chunks.Place.{Place}
use Rattle.flash.specs.declared.faults.Purpose.{Purpose}
use Rattle.flash.specs.declared.faults.Act.TheVariants.{Erasing}
use Rattle.flash.specs.declared.faults.Fault.{Fault}
use Rattle.flash.specs.declared.faults.Fault.TheVariants.{Off, NoSuchPlace, NotBlank, SupplyFailed, NoRecord}
use Rattle.flash.specs.Faults.{act_of}
use Rattle.flash.specs.Model.{State}
use Rattle.flash.specs.Reads.{Within, Outside}

-- the chunk and all later ones of its block are blank
abbrev pub BlankFrom : State → Place → Type 0
BlankFrom s q = (k : ℕ) → q.chunk ≤ k → k < s.p → s.cells q.block k ≡ Blank

-- chunk c of block b is v; every other chunk, N and P are as they were
pub record Put (s : State) (b c : ℕ) (v : Chunk) (t : State) : Type 0 where
  pub n_same : t.n ≡ s.n
  pub p_same : t.p ≡ s.p
  pub here : t.cells b c ≡ v
  pub there : (k j : ℕ) → k < s.n → j < s.p → ((k ≢ b) ⊎ (j ≢ c)) → t.cells k j ≡ s.cells k j

-- program takes a record where the chip is on, there is such a chunk, and it and all later ones of its block are blank
pub record Programs (s : State) (q : Place) : Type 0 where
  pub ready : s.on ≡ true
  pub within : Within s q
  pub blanks : BlankFrom s q

pub record ProgramDone (s : State) (q : Place) (r : Record) (t : State) : Type 0 where
  pub taken : Programs s q
  pub power : t.on ≡ true
  pub after : Put s q.block q.chunk (Holds r) t

-- a failed program leaves its chunk as it was, damaged, or with the whole record
abbrev pub LeftByProgram : Chunk → Chunk → Chunk → Type 0
LeftByProgram was new left = (left ≡ was) ⊎ ((left ≡ Damaged) ⊎ (left ≡ new))

pub record ProgramFails (s : State) (q : Place) (r : Record) (t : State) : Type 0 where
  pub taken : Programs s q
  pub power : t.on ≡ false
  pub left : LeftByProgram (s.cells q.block q.chunk) (Holds r) (t.cells q.block q.chunk)
  pub after : Put s q.block q.chunk (t.cells q.block q.chunk) t

-- program, refused: 4 off, 5 no such block or chunk, 6 not blank from there on, and after these 7 with its act and place
abbrev pub NotProgrammed : State → Purpose → Place → Record → Fault → State → Type 0
NotProgrammed s u q r Off t = (s.on ≡ false) × (t ≡ s)
NotProgrammed s u q r NoSuchPlace t = (s.on ≡ true) × Outside s q × (t ≡ s)
NotProgrammed s u q r NotBlank t = (s.on ≡ true) × Within s q × (BlankFrom s q → ⊥) × (t ≡ s)
NotProgrammed s u q r (SupplyFailed a) t = (a ≡ act_of u q) × ProgramFails s q r t
NotProgrammed s u q r NoRecord t = ⊥

abbrev pub Programmed : State → Purpose → Place → Record → Result (Unit {0}) Fault → State → Type 0
Programmed s u q r (Ok v) t = ProgramDone s q r t
Programmed s u q r (Err f) t = NotProgrammed s u q r f t

-- each chunk of block b is as P says of the old and the new; every other chunk, N and P are as they were
pub record BlockChanged (P : Chunk → Chunk → Type 0) (s : State) (b : ℕ) (t : State) : Type 0 where
  pub n_same : t.n ≡ s.n
  pub p_same : t.p ≡ s.p
  pub here : (j : ℕ) → j < s.p → P (s.cells b j) (t.cells b j)
  pub there : (k j : ℕ) → k < s.n → j < s.p → k ≢ b → t.cells k j ≡ s.cells k j

abbrev pub IsBlank : Chunk → Chunk → Type 0
IsBlank was is = is ≡ Blank

-- a failed erase leaves each chunk of its block, singly, as it was, damaged or blank
abbrev pub LeftByErase : Chunk → Chunk → Type 0
LeftByErase was is = (is ≡ was) ⊎ ((is ≡ Damaged) ⊎ (is ≡ Blank))

-- an erase that is not refused: the power after it, and what it makes of each chunk of its block
pub record Erases (P : Chunk → Chunk → Type 0) (power : Bool) (s : State) (b : ℕ) (t : State) : Type 0 where
  pub ready : s.on ≡ true
  pub within : b < s.n
  pub left_on : t.on ≡ power
  pub after : BlockChanged P s b t

-- erase, refused: 4 off, 5 no such block, and after these 7 with its block
abbrev pub NotErased : State → ℕ → Fault → State → Type 0
NotErased s b Off t = (s.on ≡ false) × (t ≡ s)
NotErased s b NoSuchPlace t = (s.on ≡ true) × (s.n ≤ b) × (t ≡ s)
NotErased s b NotBlank t = ⊥
NotErased s b (SupplyFailed a) t = (a ≡ Erasing b) × Erases LeftByErase false s b t
NotErased s b NoRecord t = ⊥

abbrev pub Erased : State → ℕ → Result (Unit {0}) Fault → State → Type 0
Erased s b (Ok u) t = Erases IsBlank true s b t
Erased s b (Err f) t = NotErased s b f t
