-- A text that grows. Assumes nothing.
use Rattle.std.specs.Prelude.{◌≡◌, ℕ, List, ◌++◌, string_bytes, Result, String, OnOk}
use Rattle.std.specs.declared.alloc.Global.{Global}

-- where memory sufficed, these bytes were added at the end
abbrev pub Adds : {E : Type 0} → String Global → List ℕ → Result (Unit {0}) E → String Global → Type 0
Adds s bs r t = OnOk r (string_bytes t ≡ string_bytes s ++ bs)
