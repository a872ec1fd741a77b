-- What a chip is as a whole, as bytes of text. Assumes nothing.
use Rattle.std.specs.Prelude.{ℕ, Bool, cond, List, ◌++◌, codes, decimal}

abbrev pub power_text : Bool → List ℕ
power_text on = cond on (codes "on") (codes "off")

-- its sizes and power
abbrev pub head_line : ℕ → ℕ → Bool → List ℕ
head_line n p on = decimal n ++ (codes " blocks of " ++ (decimal p ++ (codes " chunks, " ++ (power_text on ++ codes "\n"))))
