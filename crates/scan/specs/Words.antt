-- The words for what the store refuses, as bytes of text. Assumes nothing.
use Rattle.std.specs.Prelude.{ℕ, List, [], ◌++◌, Some, None, Option, codes, decimal}
use Rattle.flash.specs.declared.chunks.Place.{Place}
use Rattle.flash.specs.Words.{fault_text, place_text}
use Rattle.scan.specs.declared.refusals.Refusal.{Refusal}
use Rattle.scan.specs.declared.refusals.Refusal.TheVariants.{Chip, BadSizes, BadRecord, SerialClash, SameNames, FilesTooLarge, NoWayOn, Stopped, BadObject, BadNumber, BadCount, BadName, NotPresent, AlreadyPresent, NameTaken, IsOpen, NotOpen, NotShorter, NoSerial, NoRoom, NothingToClean, FewRows}
use Rattle.scan.specs.Refusals.{told}

-- what a refusal of the store itself says, by its number
abbrev pub why_text : Refusal → List ℕ
why_text (Chip f) = []
why_text BadSizes = codes "the number of blocks is outside 3 to 64, that of chunks in each outside 2 to 64, or that of all chunks over 2,048"
why_text (BadRecord q) = codes "a record breaks the rules"
why_text (SerialClash q) = codes "two unlike records have one serial"
why_text SameNames = codes "two files have one name"
why_text FilesTooLarge = codes "the files use more chunks than they may"
why_text NoWayOn = codes "no block is blank, and none has load 0"
why_text Stopped = codes "the store is stopped"
why_text BadObject = codes "the object number is outside 257 to 511"
why_text BadNumber = codes "the chunk number or the length is out of range"
why_text BadCount = codes "the number of bytes is outside 1 to 2,048"
why_text BadName = codes "the length of the name is outside 1 to 40"
why_text NotPresent = codes "there is no such file"
why_text AlreadyPresent = codes "the file is there already"
why_text NameTaken = codes "another file has the name"
why_text IsOpen = codes "the file is open"
why_text NotOpen = codes "the file is not open"
why_text NotShorter = codes "the file is no longer than that"
why_text NoSerial = codes "a record has the highest serial already"
why_text NoRoom = codes "the files would use more chunks than they may"
why_text NothingToClean = codes "a block is blank, and no closed block has a load below that of a full one"
why_text FewRows = codes "there are fewer rows than files"

-- the place that 10 and 11 carry
abbrev pub place_of : Refusal → Option Place
place_of (Chip f) = None
place_of BadSizes = None
place_of (BadRecord q) = Some q
place_of (SerialClash q) = Some q
place_of SameNames = None
place_of FilesTooLarge = None
place_of NoWayOn = None
place_of Stopped = None
place_of BadObject = None
place_of BadNumber = None
place_of BadCount = None
place_of BadName = None
place_of NotPresent = None
place_of AlreadyPresent = None
place_of NameTaken = None
place_of IsOpen = None
place_of NotOpen = None
place_of NotShorter = None
place_of NoSerial = None
place_of NoRoom = None
place_of NothingToClean = None
place_of FewRows = None

abbrev pub at_text : Option Place → List ℕ
at_text None = []
at_text (Some q) = codes ", at " ++ place_text q

-- its number, what it says, and its place
abbrev pub plain_text : Refusal → List ℕ
plain_text e = decimal (told e).0 ++ (codes ", " ++ (why_text e ++ at_text (place_of e)))

-- a refusal: a chip's own as that says it
abbrev pub refusal_text : Refusal → List ℕ
refusal_text (Chip f) = fault_text f
refusal_text BadSizes = plain_text BadSizes
refusal_text (BadRecord q) = plain_text (BadRecord q)
refusal_text (SerialClash q) = plain_text (SerialClash q)
refusal_text SameNames = plain_text SameNames
refusal_text FilesTooLarge = plain_text FilesTooLarge
refusal_text NoWayOn = plain_text NoWayOn
refusal_text Stopped = plain_text Stopped
refusal_text BadObject = plain_text BadObject
refusal_text BadNumber = plain_text BadNumber
refusal_text BadCount = plain_text BadCount
refusal_text BadName = plain_text BadName
refusal_text NotPresent = plain_text NotPresent
refusal_text AlreadyPresent = plain_text AlreadyPresent
refusal_text NameTaken = plain_text NameTaken
refusal_text IsOpen = plain_text IsOpen
refusal_text NotOpen = plain_text NotOpen
refusal_text NotShorter = plain_text NotShorter
refusal_text NoSerial = plain_text NoSerial
refusal_text NoRoom = plain_text NoRoom
refusal_text NothingToClean = plain_text NothingToClean
refusal_text FewRows = plain_text FewRows
