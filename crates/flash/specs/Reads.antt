-- The chip rules, the calls that read: sizes, look and fetch. None of them changes the chip. Assumes nothing.
use Rattle.std.specs.Prelude.{◌≡◌, ℕ, ◌<◌, ◌≤◌, true, false, ◌⊎◌, List, Ok, Err, Result}
use Rattle.flash.specs.declared.chunks.Record.{Record}
use Rattle.flash.specs.declared.chunks.Chunk.TheVariants.{Blank, Damaged, Holds}
use Rattle.flash.specs.declared.chunks.Look.{Look}
use Rattle.flash.specs.declared.chunks.Place.{Place}
use Rattle.flash.specs.declared.chunks.Sizes.{Sizes}
use Rattle.flash.specs.declared.faults.Fault.{Fault}
use Rattle.flash.specs.declared.faults.Fault.TheVariants.{Off, NoSuchPlace, NotBlank, SupplyFailed, NoRecord}
use Rattle.flash.specs.Chunks.{look_of, WholeChunk}
use Rattle.flash.specs.Model.{State}

-- sizes tells N and P, also while the chip is off
pub record Sized (s : State) (z : Sizes) : Type 0 where
  pub blocks : z.blocks ≡ s.n
  pub chunks : z.chunks ≡ s.p

-- there is such a chunk
pub record Within (s : State) (q : Place) : Type 0 where
  pub block : q.block < s.n
  pub chunk : q.chunk < s.p

abbrev pub Outside : State → Place → Type 0
Outside s q = (s.n ≤ q.block) ⊎ (s.p ≤ q.chunk)

-- look, refused: 4 off, then 5 no such block or chunk
abbrev pub NotLooked : State → Place → Fault → Type 0
NotLooked s q Off = s.on ≡ false
NotLooked s q NoSuchPlace = (s.on ≡ true) × Outside s q
NotLooked s q NotBlank = ⊥
NotLooked s q (SupplyFailed a) = ⊥
NotLooked s q NoRecord = ⊥

-- look tells what the chunk is; a record there is whole
pub record LookDone (s : State) (q : Place) (v : Look) : Type 0 where
  pub ready : s.on ≡ true
  pub within : Within s q
  pub tells : v ≡ look_of (s.cells q.block q.chunk)
  pub whole : WholeChunk (s.cells q.block q.chunk)

abbrev pub Looked : State → Place → Result Look Fault → Type 0
Looked s q (Ok v) = LookDone s q v
Looked s q (Err f) = NotLooked s q f

-- fetch, refused: 4 off, 5 no such block or chunk, then 8 no record there
abbrev pub NotFetched : State → Place → Fault → Type 0
NotFetched s q Off = s.on ≡ false
NotFetched s q NoSuchPlace = (s.on ≡ true) × Outside s q
NotFetched s q NotBlank = ⊥
NotFetched s q (SupplyFailed a) = ⊥
NotFetched s q NoRecord = (s.on ≡ true) × Within s q × ((s.cells q.block q.chunk ≡ Blank) ⊎ (s.cells q.block q.chunk ≡ Damaged))

-- fetch copies a record's bytes into the buffer
pub record FetchDone (s : State) (q : Place) (new : List ℕ) : Type 0 where
  pub ready : s.on ≡ true
  pub within : Within s q
  pub found : Record
  pub holds : s.cells q.block q.chunk ≡ Holds found
  pub copied : new ≡ found.bytes

-- refused, it leaves the buffer as it was
abbrev pub Fetched : State → Place → List ℕ → Result (Unit {0}) Fault → List ℕ → Type 0
Fetched s q old (Ok u) new = FetchDone s q new
Fetched s q old (Err f) new = NotFetched s q f × (new ≡ old)
