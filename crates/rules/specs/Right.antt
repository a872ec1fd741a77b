-- The right files: what follows from the calls accepted, and from nothing else. Assumes nothing.
use Rattle.std.specs.Prelude.{ℕ, max, Bool, cond, List, [], ◌∷◌, Some, None, Option, ◌==◌, nat_le}
use Rattle.rules.specs.Reading.{File, Files}
use Rattle.rules.specs.Calls.{Call, create, put, cut, rename, delete, opens, closes, collect, mount}

-- one object's file changed
abbrev pub changed : Files → ℕ → (Option File → Option File) → Files
changed fs o f k = cond (k == o) (f (fs k)) (fs k)

-- create: the name, length 0 and no chunk
abbrev pub fresh : List ℕ → Option File → Option File
fresh name f = Some (record { name = name; long = 0; part = λ j. None })

-- put: chunk j has the bytes; the length becomes j if it is less
abbrev pub with_part : ℕ → List ℕ → Option File → Option File
with_part j bs None = None
with_part j bs (Some f) = Some (record { name = f.name; long = max f.long j; part = λ k. cond (k == j) (Some bs) (f.part k) })

-- cut: the length; the chunks above are dropped
abbrev pub shortened : ℕ → Option File → Option File
shortened n None = None
shortened n (Some f) = Some (record { name = f.name; long = n; part = λ k. cond (nat_le k n) (f.part k) None })

-- rename: the name
abbrev pub renamed : List ℕ → Option File → Option File
renamed name None = None
renamed name (Some f) = Some (record { name = name; long = f.long; part = f.part })

-- what an accepted call makes of the files
abbrev pub accepted : Files → Call → Files
accepted fs (create o name) = changed fs o (fresh name)
accepted fs (put o j bs) = changed fs o (with_part j bs)
accepted fs (cut o n) = changed fs o (shortened n)
accepted fs (rename o name) = changed fs o (renamed name)
accepted fs (delete o) = changed fs o (λ f. None)
accepted fs (opens o) = fs
accepted fs (closes o) = fs
accepted fs collect = fs
accepted fs mount = fs

-- a call made, and whether it was accepted
pub record Made : Type 0 where
  pub call : Call
  pub taken : Bool

abbrev pub after : Files → Made → Files
after fs m = cond m.taken (accepted fs m.call) fs

-- the right files after a list of calls
abbrev pub right : Files → List Made → Files
right fs [] = fs
right fs (m ∷ ms) = right (after fs m) ms
