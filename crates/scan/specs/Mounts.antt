-- Mount: what it answers and leaves. Assumes nothing.
use Rattle.std.specs.Prelude.{◌≡◌, ℕ, ◌*◌, ◌<◌, Bool, true, false, ◌&&◌, List, [], ◌∷◌, length, Some, None, Ok, Err, Decides, Option, Result, ◌==◌}
use Rattle.flash.specs.declared.chunks.Sizes.{Sizes}
use Rattle.tags.specs.Bare.{bares}
use Rattle.table.specs.Rows.{blocks_of as table_blocks}
use Rattle.flash.specs.declared.chunks.Look.{Look}
use Rattle.flash.specs.declared.chunks.Record.{Record}
use Rattle.flash.specs.Model.{State, blocks_of}
use Rattle.flash.specs.Blocks.{standing}
use Rattle.flash.specs.Faults.{Told}
use Rattle.rules.specs.Reading.{files}
use Rattle.rules.specs.Places.{load}
use Rattle.rules.specs.Mounting.{Fault, verdict}
use Rattle.names.specs.Names.{Entries, Mirrors}
use Rattle.scan.specs.declared.refusals.Refusal.{Refusal}
use Rattle.scan.specs.Flat.{looks_of}
use Rattle.scan.specs.Refusals.{told}

-- a refusal as the rules have it: its number, and the place that 10 and 11 carry
abbrev pub place_in : List ℕ → Option (ℕ × ℕ)
place_in [] = None
place_in (b ∷ []) = None
place_in (b ∷ c ∷ more) = Some (b, c)

abbrev pub fault_of : Told → Fault
fault_of t = record { number = t.0; at = place_in t.1 }

abbrev pub verdict_of : Result (Unit {0}) Refusal → Option Fault
verdict_of (Ok u) = None
verdict_of (Err e) = Some (fault_of (told e))

-- every record has 2,048 data bytes
abbrev pub whole_all : List Record → Bool
whole_all [] = true
whole_all (r ∷ rs) = length r.bytes == 2048 && whole_all rs

-- the contents examined: the answer is mount's verdict on them; accepted, the rows tell of every chunk, all records are whole, and the names are those of the files
pub record Accepted (s : State) (rows : List Look) (names : Entries) : Type 0 where
  pub mirror : rows ≡ looks_of (blocks_of s)
  pub whole : whole_all (standing (blocks_of s)) ≡ true
  pub named : Mirrors names (files (standing (blocks_of s)))

abbrev pub AcceptedIf : State → Result (Unit {0}) Refusal → List Look → Entries → Type 0
AcceptedIf s (Ok u) rows names = Accepted s rows names
AcceptedIf s (Err e) rows names = Unit {0}

pub record Examined (s : State) (r : Result (Unit {0}) Refusal) (rows : List Look) (names : Entries) : Type 0 where
  pub answers : verdict_of r ≡ verdict s.n s.p (blocks_of s)
  pub leaves : AcceptedIf s r rows names

-- by the table, some block has load 0
abbrev pub Idle : List Look → Sizes → Bool → Type 0
Idle rows z r = length rows ≡ z.blocks * z.chunks → Decides r ((b : ℕ) × (b < z.blocks) × (load (table_blocks z.chunks z.blocks (bares rows)) b ≡ 0))

-- mount runs the store exactly if it accepts
abbrev pub runs : Result (Unit {0}) Refusal → Bool
runs (Ok u) = true
runs (Err e) = false
