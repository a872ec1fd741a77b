-- The arguments of a change that its checks let through. Assumes nothing.
use Rattle.std.specs.Prelude.{◌≡◌, ℕ, true, List, length}
use Rattle.rules.specs.Lists.{within}

-- the number of an object
abbrev pub IsObject : ℕ → Type 0
IsObject o = within 257 511 o ≡ true

-- the bytes of a name
abbrev pub IsName : List ℕ → Type 0
IsName name = within 1 40 (length name) ≡ true

-- the bytes of a put
abbrev pub IsPut : List ℕ → Type 0
IsPut bytes = within 1 2048 (length bytes) ≡ true
