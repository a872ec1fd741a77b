-- What an index tells, and when it knows a chip. Assumes nothing.
use Rattle.std.specs.Prelude.{◌≡◌, ◌*◌, true, List, map, take, None, Ok, Err, vec_items, Result}
use Rattle.flash.specs.declared.chunks.Look.{Look}
use Rattle.flash.specs.Blocks.{standing}
use Rattle.flash.specs.Model.{State, View, blocks_of, view_of}
use Rattle.rules.specs.declared.standings.Standing.{Standing}
use Rattle.rules.specs.Mounting.{sizes_fit, mounted_block, verdict}
use Rattle.rules.specs.Reading.{files}
use Rattle.names.specs.Names.{Entries, entries_of, Mirrors}
use Rattle.scan.specs.declared.indexes.Index.{Index}
use Rattle.scan.specs.declared.refusals.Refusal.{Refusal}
use Rattle.scan.specs.Flat.{looks_of}
use Rattle.scan.specs.Mounts.{whole_all}

-- what each chunk is, by rising place
abbrev pub looks_in : Index → List Look
looks_in x = take (x.sizes.blocks * x.sizes.chunks) (vec_items x.rows)

-- how each block stands
abbrev pub stands_in : Index → List Standing
stands_in x = take x.sizes.blocks (vec_items x.standings)

-- the names of the files
abbrev pub names_in : Index → Entries
names_in x = entries_of x.names

-- the index knows the chip: it is on and has sizes that are taken; the index tells of its chunks and of the names of its files; records are whole, and mount accepts the contents
pub record Knows (v : View) (x : Index) : Type 0 where
  pub on : v.on ≡ true
  pub blocks : x.sizes.blocks ≡ v.n
  pub chunks : x.sizes.chunks ≡ v.p
  pub sizes : sizes_fit v.n v.p ≡ true
  pub mirror : looks_in x ≡ looks_of v.blocks
  pub whole : whole_all (standing v.blocks) ≡ true
  pub accepted : verdict v.n v.p v.blocks ≡ None
  pub named : Mirrors (names_in x) (files (standing v.blocks))

-- after a mount: accepted, the index knows the chip, and every block that is not blank stands closed; refused, the standings are as they were
abbrev pub Mounted : State → Index → Result (Unit {0}) Refusal → Index → Type 0
Mounted s x (Ok u) y = Knows (view_of s) y × (stands_in y ≡ map mounted_block (blocks_of s))
Mounted s x (Err e) y = vec_items y.standings ≡ vec_items x.standings
