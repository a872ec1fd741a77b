-- What an index tells of a chip, and acts done on both. Assumes nothing.
use Rattle.std.specs.Prelude.{◌≡◌, ◌≢◌, ℕ, ◌<◌, true, false, List, [], ◌∷◌, Ok, Err, Result, slice_index_or}
use Rattle.flash.specs.declared.chunks.Place.{Place}
use Rattle.flash.specs.declared.chunks.Record.{Record}
use Rattle.flash.specs.declared.faults.Act.{Act}
use Rattle.flash.specs.declared.faults.Act.TheVariants.{Adding, Copying, Erasing}
use Rattle.flash.specs.declared.faults.Fault.{Fault}
use Rattle.flash.specs.declared.faults.Fault.TheVariants.{SupplyFailed}
use Rattle.flash.specs.declared.faults.Purpose.{Purpose}
use Rattle.flash.specs.declared.faults.Purpose.TheVariants.{Adding as ToAdd, Copying as ToCopy}
use Rattle.flash.specs.Model.{State, blocks_of}
use Rattle.rules.specs.declared.standings.Standing.TheVariants.{Closed as closed_s}
use Rattle.rules.specs.Machine.{Breaks}
use Rattle.rules.specs.Places.{Flash, Act as RulesAct, adding, copying, erasing, runs}
use Rattle.rules.specs.Runs.{Takes}
use Rattle.scan.specs.declared.indexes.Index.{Index}
use Rattle.scan.specs.Flat.{looks_of}
use Rattle.scan.specs.Indexes.{looks_in, stands_in, names_in}

-- the contents of a chip, with the standings that an index tells
abbrev pub flash_of : State → Index → Flash
flash_of s x = record { blocks = blocks_of s; stand = stands_in x }

-- the index tells of the chip: the chip is on and of these sizes, and the index tells of its chunks
pub record Tells (s : State) (x : Index) : Type 0 where
  pub on : s.on ≡ true
  pub blocks : x.sizes.blocks ≡ s.n
  pub chunks : x.sizes.chunks ≡ s.p
  pub mirror : looks_in x ≡ looks_of (blocks_of s)

-- the act of a program, as the rules have it
abbrev pub to_program : Purpose → Place → Record → RulesAct
to_program ToAdd q r = adding q.block q.chunk r
to_program ToCopy q r = copying q.block q.chunk r

-- an act of the rules, as a chip's failure tells it
abbrev pub act_told : RulesAct → Act
act_told (adding b c r) = Adding (record { block = b; chunk = c })
act_told (copying b c r) = Copying (record { block = b; chunk = c })
act_told (erasing b) = Erasing b

-- sizes and names are as they were
pub record Beside (s : State) (x : Index) (t : State) (y : Index) : Type 0 where
  pub same_n : t.n ≡ s.n
  pub same_p : t.p ≡ s.p
  pub same_sizes : y.sizes ≡ x.sizes
  pub same_names : names_in y ≡ names_in x

-- all acts are done: the index tells of the chip, and contents and standings are what the acts make of them
pub record AllDone (s : State) (x : Index) (acts : List RulesAct) (t : State) (y : Index) : Type 0 where
  pub tells : Tells t y
  pub made : flash_of t y ≡ runs (flash_of s x) acts
  pub beside : Beside s x t y

-- the supply failed at one of the acts: those before it are done, of it the chip holds what its rules allow, the chip is off, and the failure names it
pub record BrokenAt (s : State) (x : Index) (acts : List RulesAct) (f : Fault) (t : State) (y : Index) : Type 0 where
  pub act : RulesAct
  pub names : f ≡ SupplyFailed (act_told act)
  pub left : Breaks (flash_of s x) acts act (blocks_of t)
  pub off : t.on ≡ false
  pub beside : Beside s x t y

-- acts done, one after the other, or broken off
abbrev pub Played : State → Index → List RulesAct → Result (Unit {0}) Fault → State → Index → Type 0
Played s x acts (Ok u) t y = AllDone s x acts t y
Played s x acts (Err f) t y = BrokenAt s x acts f t y

-- a record programmed: where the index tells of the chip, the chip takes the record, and its block is not closed, that act is played
abbrev pub ProgramPlayed : State → Index → Purpose → Place → Record → Result (Unit {0}) Fault → State → Index → Type 0
ProgramPlayed s x u q r v t y =
    Tells s x → Takes s.n s.p (blocks_of s) (to_program u q r) → slice_index_or (stands_in x) q.block closed_s ≢ closed_s
    → Played s x (to_program u q r ∷ []) v t y

-- a block erased: where the index tells of the chip, and the chip has the block, that act is played
abbrev pub ErasePlayed : State → Index → ℕ → Result (Unit {0}) Fault → State → Index → Type 0
ErasePlayed s x b v t y = Tells s x → b < s.n → Played s x (erasing b ∷ []) v t y
