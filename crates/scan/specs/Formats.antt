-- What format leaves of a chip. Assumes nothing.
use Rattle.std.specs.Prelude.{◌≡◌, ℕ, ◌<◌, true, false, Bool, Ok, Err, Decides, Result}
use Rattle.flash.specs.declared.chunks.Chunk.TheVariants.{Blank}
use Rattle.flash.specs.declared.faults.Act.{Act}
use Rattle.flash.specs.declared.faults.Act.TheVariants.{Adding, Copying, Erasing}
use Rattle.flash.specs.declared.faults.Fault.{Fault}
use Rattle.flash.specs.declared.faults.Fault.TheVariants.{Off, NoSuchPlace, NotBlank, SupplyFailed, NoRecord}
use Rattle.flash.specs.Model.{State, started}
use Rattle.flash.specs.Reads.{NotLooked}
use Rattle.flash.specs.Writes.{LeftByErase}
use Rattle.rules.specs.Mounting.{sizes_fit}
use Rattle.scan.specs.declared.refusals.Refusal.{Refusal}
use Rattle.scan.specs.declared.refusals.Refusal.TheVariants.{Chip, BadSizes, BadRecord, SerialClash, SameNames, FilesTooLarge, NoWayOn, Stopped, BadObject, BadNumber, BadCount, BadName, NotPresent, AlreadyPresent, NameTaken, IsOpen, NotOpen, NotShorter, NoSerial, NoRoom, NothingToClean, FewRows}

-- every chunk of block b is blank
abbrev pub BlankBlock : State → ℕ → Type 0
BlankBlock s b = (c : ℕ) → c < s.p → s.cells b c ≡ Blank

-- whether block b is blank; a look at it may be refused
abbrev pub BlankTold : State → ℕ → Result Bool Fault → Type 0
BlankTold s b (Ok v) = Decides v (BlankBlock s b)
BlankTold s b (Err f) = (c : ℕ) × (c < s.p) × NotLooked s (record { block = b; chunk = c }) f

-- the blocks below b are blank, the others as they were
pub record ErasedTo (s : State) (b : ℕ) (t : State) : Type 0 where
  pub n_same : t.n ≡ s.n
  pub p_same : t.p ≡ s.p
  pub power : t.on ≡ true
  pub below : (k : ℕ) → k < b → BlankBlock t k
  pub above : (k c : ℕ) → k < s.n → c < s.p → (k < b → ⊥) → t.cells k c ≡ s.cells k c

-- the erase of block b failed: it was not blank; the blocks below are blank, its chunks are singly as they were, damaged or blank, the later blocks as they were
pub record ErasedUpTo (s : State) (b : ℕ) (t : State) : Type 0 where
  pub n_same : t.n ≡ s.n
  pub p_same : t.p ≡ s.p
  pub power : t.on ≡ false
  pub within : b < s.n
  pub wanting : BlankBlock s b → ⊥
  pub below : (k : ℕ) → k < b → BlankBlock t k
  pub here : (c : ℕ) → c < s.p → LeftByErase (s.cells b c) (t.cells b c)
  pub above : (k c : ℕ) → k < s.n → c < s.p → b < k → t.cells k c ≡ s.cells k c

-- each block that is not blank is erased, in rising order, unless the supply fails at one
abbrev pub FailedAt : State → Act → State → Type 0
FailedAt s (Adding q) t = ⊥
FailedAt s (Copying q) t = ⊥
FailedAt s (Erasing b) t = ErasedUpTo s b t

abbrev pub ErasedAll : State → Result (Unit {0}) Fault → State → Type 0
ErasedAll s (Ok u) t = ErasedTo s s.n t
ErasedAll s (Err Off) t = ⊥
ErasedAll s (Err NoSuchPlace) t = ⊥
ErasedAll s (Err NotBlank) t = ⊥
ErasedAll s (Err (SupplyFailed a)) t = FailedAt s a t
ErasedAll s (Err NoRecord) t = ⊥

-- format: 9 where the sizes are not taken, the chip restarted; else each block that is not blank is erased, in rising order, unless the supply fails
abbrev pub NotFormatted : State → Refusal → State → Type 0
NotFormatted s (Chip f) t = (sizes_fit s.n s.p ≡ true) × ErasedAll (started s) (Err f) t
NotFormatted s BadSizes t = (sizes_fit s.n s.p ≡ false) × (t ≡ started s)
NotFormatted s (BadRecord q) t = ⊥
NotFormatted s (SerialClash q) t = ⊥
NotFormatted s SameNames t = ⊥
NotFormatted s FilesTooLarge t = ⊥
NotFormatted s NoWayOn t = ⊥
NotFormatted s Stopped t = ⊥
NotFormatted s BadObject t = ⊥
NotFormatted s BadNumber t = ⊥
NotFormatted s BadCount t = ⊥
NotFormatted s BadName t = ⊥
NotFormatted s NotPresent t = ⊥
NotFormatted s AlreadyPresent t = ⊥
NotFormatted s NameTaken t = ⊥
NotFormatted s IsOpen t = ⊥
NotFormatted s NotOpen t = ⊥
NotFormatted s NotShorter t = ⊥
NotFormatted s NoSerial t = ⊥
NotFormatted s NoRoom t = ⊥
NotFormatted s NothingToClean t = ⊥
NotFormatted s FewRows t = ⊥

abbrev pub Formatted : State → Result (Unit {0}) Refusal → State → Type 0
Formatted s (Ok u) t = (sizes_fit s.n s.p ≡ true) × ErasedAll (started s) (Ok u) t
Formatted s (Err e) t = NotFormatted s e t
