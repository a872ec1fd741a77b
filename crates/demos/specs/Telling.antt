-- Calls with their answers, and files, a line for each, as bytes of text. Assumes nothing.
use Rattle.std.specs.Prelude.{ℕ, List, [], ◌∷◌, ◌++◌, length, codes, decimal, Some, None, Option}
use Rattle.std.specs.List.{flat_map}
use Rattle.lines.specs.Bytes.{letters_text}
use Rattle.rules.specs.declared.rows.Row.{Row}
use Rattle.rules.specs.Calls.{Call, create, put, cut, rename, delete, opens, closes, collect, mount, name_of, read_bytes}
use Rattle.rules.specs.Reading.{File, Files}
use Rattle.scan.specs.Words.{refusal_text}
use Rattle.store.specs.declared.making.Answer.{Answer}
use Rattle.store.specs.declared.making.Answer.TheVariants.{Counted, Collected, Granted, Refused}

-- bytes as letters, in quotes
abbrev pub quoted : List ℕ → List ℕ
quoted bs = codes "\"" ++ (letters_text bs ++ codes "\"")

-- a call with its arguments
abbrev pub call_text : Call → List ℕ
call_text (create o name) = codes "create " ++ (decimal o ++ (codes " " ++ quoted name))
call_text (put o j bs) =
    codes "put " ++ (decimal o ++ (codes " chunk " ++ (decimal j ++ (codes ", " ++ (decimal (length bs) ++ codes " bytes")))))
call_text (cut o n) = codes "cut " ++ (decimal o ++ (codes " to " ++ decimal n))
call_text (rename o name) = codes "rename " ++ (decimal o ++ (codes " to " ++ quoted name))
call_text (delete o) = codes "delete " ++ decimal o
call_text (opens o) = codes "open " ++ decimal o
call_text (closes o) = codes "close " ++ decimal o
call_text collect = codes "collect"
call_text mount = codes "mount"

-- what it answered: its counts, or the block that was cleaned with the number of copies, or its refusal
abbrev pub answer_text : Answer → List ℕ
answer_text (Counted c) = decimal c.programs ++ (codes " programmed, " ++ (decimal c.erases ++ codes " erased"))
answer_text (Collected b k) = codes "block " ++ (decimal b ++ (codes " cleaned, " ++ (decimal k ++ codes " copied")))
answer_text Granted = codes "granted"
answer_text (Refused e) = codes "refused: " ++ refusal_text e

abbrev pub call_line : Call → Answer → List ℕ
call_line call a = call_text call ++ (codes ": " ++ (answer_text a ++ codes "\n"))

-- each call with its answer
abbrev pub call_lines : List Call → List Answer → List ℕ
call_lines [] answers = []
call_lines (call ∷ calls) [] = []
call_lines (call ∷ calls) (a ∷ answers) = call_line call a ++ call_lines calls answers

-- the first 2,048 bytes of a file
abbrev pub start_of : Option File → List ℕ
start_of None = []
start_of (Some f) = read_bytes f 0 2048

-- a file: its object, its name, its length and size, and its first bytes
abbrev pub file_line : Files → Row → List ℕ
file_line fs r =
    (codes "file " ++ (decimal r.object ++ (codes " " ++ quoted (name_of (fs r.object)))))
    ++ ((codes ", length " ++ (decimal r.length ++ (codes ", " ++ (decimal r.size ++ codes " bytes: "))))
    ++ (quoted (start_of (fs r.object)) ++ codes "\n"))

abbrev pub file_lines : Files → List Row → List ℕ
file_lines fs rs = flat_map (λ r. file_line fs r) rs
