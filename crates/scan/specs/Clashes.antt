-- Unlike records with one serial: where the first one stands that is unlike an earlier one. Assumes nothing.
use Rattle.std.specs.Prelude.{◌≡◌, ℕ, Bool, false, [], take, Some, None, Ok, Err, Decides, Option, Result}
use Rattle.flash.specs.declared.chunks.Chunk.{Chunk}
use Rattle.flash.specs.declared.chunks.Chunk.TheVariants.{Blank, Damaged, Holds}
use Rattle.flash.specs.declared.chunks.Place.{Place}
use Rattle.flash.specs.declared.chunks.Record.{Record}
use Rattle.flash.specs.declared.faults.Fault.{Fault}
use Rattle.flash.specs.Model.{State, blocks_of}
use Rattle.rules.specs.Lists.{any}
use Rattle.rules.specs.Mounting.{unlike, placed, first_clash}
use Rattle.scan.specs.Flat.{flat}
use Rattle.scan.specs.Tables.{row_of}

-- whether two chunks hold records with the same data bytes
abbrev pub DataAlike : Chunk → Chunk → Result Bool Fault → Type 0
DataAlike x y (Ok v) = (a b : Record) → x ≡ Holds a → y ≡ Holds b → Decides v (a.bytes ≡ b.bytes)
DataAlike x y (Err f) = ⊥

-- two chunks hold unlike records with one serial
abbrev pub clashing : Chunk → Chunk → Bool
clashing Blank y = false
clashing Damaged y = false
clashing (Holds a) Blank = false
clashing (Holds a) Damaged = false
clashing (Holds a) (Holds b) = unlike a b

-- whether two chunks clash
abbrev pub Clash : Chunk → Chunk → Result Bool Fault → Type 0
Clash x y (Ok v) = v ≡ clashing x y
Clash x y (Err f) = ⊥

-- row j clashes with one of the first i rows
abbrev pub clashes_to : State → ℕ → ℕ → Bool
clashes_to s j i = any (clashing (row_of s j)) (take i (flat (blocks_of s)))

-- whether row j clashes with an earlier one
abbrev pub ClashBefore : State → ℕ → Result Bool Fault → Type 0
ClashBefore s j (Ok v) = v ≡ clashes_to s j j
ClashBefore s j (Err f) = ⊥

-- the first place whose record is unlike an earlier one with its serial
abbrev pub clash_place : Option Place → Option (ℕ × ℕ)
clash_place None = None
clash_place (Some q) = Some (q.block, q.chunk)

abbrev pub Clashed : State → Result (Option Place) Fault → Type 0
Clashed s (Ok q) = clash_place q ≡ first_clash [] (placed 0 (blocks_of s))
Clashed s (Err f) = ⊥
