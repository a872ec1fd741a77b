-- What a line is answered, as bytes of text. Assumes nothing.
use Rattle.std.specs.Prelude.{ℕ, List, [], ◌∷◌, ◌++◌, Some, None, codes, decimal, string_bytes, vec_items, vec_len, Result, String, OnOk, ◌≡◌}
use Rattle.std.specs.List.{flat_map}
use Rattle.std.specs.declared.alloc.Global.{Global}
use Rattle.flash.specs.declared.faults.Act.TheVariants.{Adding, Copying, Erasing}
use Rattle.flash.specs.declared.faults.Fault.TheVariants.{Off, NoSuchPlace, NotBlank, SupplyFailed, NoRecord}
use Rattle.flash.specs.declared.chunks.Place.{Place}
use Rattle.flash.specs.declared.chunks.Look.{Look as ChunkLook}
use Rattle.flash.specs.declared.chunks.Look.TheVariants.{Blank, Damaged, Record}
use Rattle.flash.specs.Faults.{misfit_number}
use Rattle.flash.specs.Words.{hex_text}
use Rattle.rules.specs.declared.rows.Row.{Row}
use Rattle.scan.specs.declared.refusals.Refusal.{Refusal}
use Rattle.scan.specs.declared.refusals.Refusal.TheVariants.{Chip, BadSizes, BadRecord, SerialClash, SameNames, FilesTooLarge, NoWayOn, Stopped, BadObject, BadNumber, BadCount, BadName, NotPresent, AlreadyPresent, NameTaken, IsOpen, NotOpen, NotShorter, NoSerial, NoRoom, NothingToClean, FewRows}
use Rattle.scan.specs.Refusals.{told}
use Rattle.scripts.specs.Misreads.{misread_text}
use Rattle.replays.specs.declared.answers.Misuse.{Misuse as Misused}
use Rattle.replays.specs.declared.answers.Misuse.TheVariants.{NoChip, NoBench, NoStore, NoTicket, NoFile, NoImage, TooLong}
use Rattle.replays.specs.declared.answers.Answer.{Answer}
use Rattle.replays.specs.declared.answers.Answer.TheVariants.{Done, Counts, Cleaned, Found, Number, Rows, Read, Sizes, Look, Fetched, Chunks, Refused, Unmade, Misuse, Misread}

-- where memory sufficed, these bytes were added at the end
abbrev pub Adds : {E : Type 0} → String Global → List ℕ → Result (Unit {0}) E → String Global → Type 0
Adds s bs r t = OnOk r (string_bytes t ≡ string_bytes s ++ bs)

abbrev pub two_text : ℕ → ℕ → List ℕ
two_text a b = decimal a ++ (codes " " ++ decimal b)

abbrev pub place_text : Place → List ℕ
place_text q = codes " " ++ two_text q.block q.chunk

-- what a refusal carries: 7 the act and its place, 10 and 11 a place
abbrev pub carried_text : Refusal → List ℕ
carried_text (Chip Off) = []
carried_text (Chip NoSuchPlace) = []
carried_text (Chip NotBlank) = []
carried_text (Chip (SupplyFailed (Adding q))) = codes " adding" ++ place_text q
carried_text (Chip (SupplyFailed (Copying q))) = codes " copying" ++ place_text q
carried_text (Chip (SupplyFailed (Erasing b))) = codes " erasing " ++ decimal b
carried_text (Chip NoRecord) = []
carried_text BadSizes = []
carried_text (BadRecord q) = place_text q
carried_text (SerialClash q) = place_text q
carried_text SameNames = []
carried_text FilesTooLarge = []
carried_text NoWayOn = []
carried_text Stopped = []
carried_text BadObject = []
carried_text BadNumber = []
carried_text BadCount = []
carried_text BadName = []
carried_text NotPresent = []
carried_text AlreadyPresent = []
carried_text NameTaken = []
carried_text IsOpen = []
carried_text NotOpen = []
carried_text NotShorter = []
carried_text NoSerial = []
carried_text NoRoom = []
carried_text NothingToClean = []
carried_text FewRows = []

abbrev pub refused_text : Refusal → List ℕ
refused_text e = codes "refused " ++ (decimal (told e).0 ++ carried_text e)

abbrev pub misuse_text : Misused → List ℕ
misuse_text NoChip = codes "no chip"
misuse_text NoBench = codes "no bench chip"
misuse_text NoStore = codes "no store"
misuse_text NoTicket = codes "no ticket"
misuse_text NoFile = codes "no file"
misuse_text NoImage = codes "no image"
misuse_text TooLong = codes "too long"

abbrev pub look_text : ChunkLook → List ℕ
look_text Blank = codes "ok blank"
look_text Damaged = codes "ok damaged"
look_text (Record t) = codes "ok " ++ (two_text t.first t.second ++ (codes " " ++ two_text t.third t.serial))

-- each byte in two hexadecimal digits
abbrev pub hexes_text : List ℕ → List ℕ
hexes_text xs = flat_map hex_text xs

abbrev pub bytes_text : List ℕ → List ℕ
bytes_text [] = codes "-"
bytes_text (x ∷ xs) = hexes_text (x ∷ xs)

-- object, length and size of a file
abbrev pub row_text : Row → List ℕ
row_text r = codes " " ++ (decimal r.object ++ (codes "," ++ (decimal r.length ++ (codes "," ++ decimal r.size))))

abbrev pub rows_text : List Row → List ℕ
rows_text rs = flat_map row_text rs

-- ok with its values, or why not
abbrev pub answer_text : Answer → List ℕ
answer_text Done = codes "ok"
answer_text (Counts c) = codes "ok " ++ two_text c.programs c.erases
answer_text (Cleaned b n) = codes "ok " ++ two_text b n
answer_text (Found None) = codes "ok none"
answer_text (Found (Some o)) = codes "ok " ++ decimal o
answer_text (Number n) = codes "ok " ++ decimal n
answer_text (Rows v) = codes "ok " ++ (decimal (vec_len v) ++ rows_text (vec_items v))
answer_text (Read n v) = codes "ok " ++ (decimal n ++ (codes " " ++ bytes_text (vec_items v)))
answer_text (Sizes z) = codes "ok " ++ two_text z.blocks z.chunks
answer_text (Look l) = look_text l
answer_text (Fetched bs) = codes "ok " ++ bytes_text bs
answer_text (Chunks s) = string_bytes s ++ codes "ok"
answer_text (Refused e) = refused_text e
answer_text (Unmade m) = codes "refused " ++ decimal (misfit_number m)
answer_text (Misuse m) = misuse_text m
answer_text (Misread m) = misread_text m
