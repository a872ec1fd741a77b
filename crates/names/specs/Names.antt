-- The table of names: an entry for each object, and the name in it. Assumes nothing.
use Rattle.std.specs.Prelude.{◌≡◌, ℕ, ◌-◌, ◌<◌, ◌≤◌, cond, ◌&&◌, ◌≢◌, List, Some, None, vec_items, Option, ◌==◌, slice_index_or}
use Rattle.rules.specs.Lists.{within}
use Rattle.rules.specs.Records.{first_byte}
use Rattle.rules.specs.Reading.{File, Files, name_in}
use Rattle.names.specs.declared.entries.Names.{Names}
use Rattle.names.specs.declared.name.Name.{Name}

-- the name that a header's data has: the first byte tells how many bytes after it, 1 to 40; with any other number there is none
abbrev pub name_from : List ℕ → Option (List ℕ)
name_from bytes = cond (within 1 40 (first_byte bytes)) (Some (name_in bytes)) None

-- the entries of a table: for each object from 257 on its name, if it has one
abbrev pub Entries : Type 0
Entries = List (Option Name)

-- the name of object o; there is none outside 257 to 511
unfoldable pub name_at : Entries → ℕ → Option (List ℕ)
name_at entries o = cond (within 257 511 o) (slice_index_or entries (o - 257) None) None

-- the table's entries
abbrev pub entries_of : Names → Entries
entries_of t = vec_items t.entries

-- no object has a name
abbrev pub Empty : Entries → Type 0
Empty entries = (k : ℕ) → name_at entries k ≡ None

-- object o has this name or none now, and every other object what it had; outside 257 to 511 nothing changes
abbrev pub Noted : Entries → ℕ → Option (List ℕ) → Entries → Type 0
Noted before o name after = (k : ℕ) → name_at after k ≡ cond (within 257 511 o && k == o) name (name_at before k)

-- of the objects from o to 511, the lowest that has the name
abbrev pub Lowest : Entries → List ℕ → ℕ → Option ℕ → Type 0
Lowest entries name o None = (k : ℕ) → o ≤ k → k ≤ 511 → name_at entries k ≢ Some name
Lowest entries name o (Some j) = (o ≤ j) × (j ≤ 511) × (name_at entries j ≡ Some name) × ((k : ℕ) → o ≤ k → k < j → name_at entries k ≢ Some name)

-- an object other than o has the name
abbrev pub Taken : Entries → ℕ → List ℕ → Type 0
Taken entries o name = (k : ℕ) × (k ≢ o) × (name_at entries k ≡ Some name)

-- a later object has the name of object o
abbrev pub Repeated : Entries → ℕ → Type 0
Repeated entries o = (k : ℕ) × (name : List ℕ) × (o < k) × (name_at entries o ≡ Some name) × (name_at entries k ≡ Some name)

-- two objects have one name
abbrev pub Alike : Entries → Type 0
Alike entries = (o : ℕ) × Repeated entries o

-- the name of a file, if there is one
abbrev pub name_if : Option File → Option (List ℕ)
name_if None = None
name_if (Some f) = Some f.name

-- the table has the names of the files
abbrev pub Mirrors : Entries → Files → Type 0
Mirrors entries fs = (o : ℕ) → 257 ≤ o → o ≤ 511 → name_at entries o ≡ name_if (fs o)
