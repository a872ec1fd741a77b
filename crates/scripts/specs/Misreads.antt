-- Why a line is none, as bytes of text. Assumes nothing.
use Rattle.std.specs.Prelude.{ℕ, List, ◌++◌, codes, decimal}
use Rattle.scripts.specs.declared.misreads.Misread.{Misread}
use Rattle.scripts.specs.declared.misreads.Misread.TheVariants.{Memory, Unknown, Count, Number, Long, Data, State}

-- an operand by its place, and what it is not
abbrev pub operand_text : ℕ → List ℕ → List ℕ
operand_text i what = codes "operand " ++ (decimal i ++ what)

abbrev pub misread_text : Misread → List ℕ
misread_text Memory = codes "no memory is left"
misread_text Unknown = codes "no such call"
misread_text Count = codes "wrong number of operands"
misread_text (Number i) = operand_text i (codes " is not a number of 32 bits")
misread_text (Long i) = operand_text i (codes " is not a number of 64 bits")
misread_text (Data i) = operand_text i (codes " is not data")
misread_text (State i) = operand_text i (codes " is neither blank nor damaged")
