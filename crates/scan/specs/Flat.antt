-- A chip's chunks in rising place, and what a look tells of each. Assumes nothing.
use Rattle.std.specs.Prelude.{List, [], ◌∷◌, ◌++◌}
use Rattle.flash.specs.declared.chunks.Chunk.{Chunk}
use Rattle.flash.specs.declared.chunks.Look.{Look}
use Rattle.flash.specs.Chunks.{look_of}

abbrev pub flat : {A : Type 0} → List (List A) → List A
flat [] = []
flat (b ∷ bs) = b ++ flat bs

abbrev pub looks : List Chunk → List Look
looks [] = []
looks (c ∷ cs) = look_of c ∷ looks cs

-- what a table of the contents holds
abbrev pub looks_of : List (List Chunk) → List Look
looks_of bs = looks (flat bs)
