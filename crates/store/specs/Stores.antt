-- A store as the rules have it, and what mount leaves. Assumes nothing.
use Rattle.std.specs.Prelude.{◌≡◌, ℕ, ◌-◌, Bool, false, not, ◌&&◌, List, [], ◌∷◌, take, Ok, Err, Result, slice_index_or}
use Rattle.flash.specs.Model.{State, blocks_of}
use Rattle.rules.specs.Lists.{within}
use Rattle.rules.specs.Mounting.{mounted}
use Rattle.rules.specs.Refusals.{Store, Table}
use Rattle.rules.specs.declared.standings.Standing.{Standing}
use Rattle.scan.specs.declared.refusals.Refusal.{Refusal}

-- which files are open: a truth value for each object from 257 to 511
abbrev pub held_at : List Bool → ℕ → Bool
held_at held k = within 257 511 k && slice_index_or held (k - 257) false

-- no file is open
abbrev pub NoneHeld : List Bool → Type 0
NoneHeld held = (k : ℕ) → held_at held k ≡ false

-- the store and its chip, as the rules speak of them
abbrev pub store_of : State → Bool → List Bool → List Standing → Store
store_of s running held stands = record { n = s.n; p = s.p; power = s.on; running = running; opened = held_at held; flash = record { blocks = blocks_of s; stand = take s.n stands } }

-- mount leaves the contents; accepted, every block that is not blank stands closed; refused, the blocks stand as they did
abbrev pub LeftByMount : Store → Result (Unit {0}) Refusal → Store → Type 0
LeftByMount s (Ok u) t = t.flash ≡ mounted s.flash.blocks
LeftByMount s (Err e) t = t.flash ≡ s.flash

-- what is checked of a question about nothing in particular: that the store runs
abbrev pub running_table : Store → Table
running_table s = (15, not s.running) ∷ []
