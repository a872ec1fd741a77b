-- The words of a line. Assumes nothing.
use Rattle.std.specs.Prelude.{ℕ, Bool, not, ◌||◌, List, length, ◌==◌}
use Rattle.std.specs.List.{filter, slice_split, before_first}

-- a blank or a tab
abbrev pub is_blank : ℕ → Bool
is_blank c = (c == 32) || (c == 9)

-- what stands before the first #
abbrev pub before_comment : List ℕ → List ℕ
before_comment line = before_first (λ c. c == 35) line

-- what blanks and tabs part, up to a comment
abbrev pub words_of : List ℕ → List (List ℕ)
words_of line = filter (λ w. not (length w == 0)) (slice_split is_blank (before_comment line))
