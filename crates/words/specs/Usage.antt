-- What the commands are for, and what is said of words that are none, as bytes of text. Assumes nothing.
use Rattle.std.specs.Prelude.{ℕ, List, [], ◌∷◌, ◌++◌, codes}
use Rattle.std.specs.List.{flat_map}
use Rattle.scan.specs.declared.refusals.Refusal.TheVariants.{BadSizes}
use Rattle.scan.specs.Words.{refusal_text}
use Rattle.words.specs.declared.naming.Name.{Name}
use Rattle.words.specs.declared.naming.Name.TheVariants.{New, Put, Get, Ls, Cat, Cut, Mv, Rm, Info, Dump, Collect, Format, Replay, Demo, Help}
use Rattle.words.specs.declared.parsing.Misuse.{Misuse}
use Rattle.words.specs.declared.parsing.Misuse.TheVariants.{Unknown, Operands, NotANumber, Sizes}

-- a name with its operands
abbrev pub synopsis_text : Name → List ℕ
synopsis_text New = codes "tfs new FILE N P"
synopsis_text Put = codes "tfs put FILE NAME SOURCE"
synopsis_text Get = codes "tfs get FILE NAME DEST"
synopsis_text Ls = codes "tfs ls FILE"
synopsis_text Cat = codes "tfs cat FILE NAME [FROM [COUNT]]"
synopsis_text Cut = codes "tfs cut FILE NAME LENGTH"
synopsis_text Mv = codes "tfs mv FILE NAME NEW"
synopsis_text Rm = codes "tfs rm FILE NAME"
synopsis_text Info = codes "tfs info FILE"
synopsis_text Dump = codes "tfs dump FILE"
synopsis_text Collect = codes "tfs collect FILE"
synopsis_text Format = codes "tfs format FILE"
synopsis_text Replay = codes "tfs replay [FILE]"
synopsis_text Demo = codes "tfs demo"
synopsis_text Help = codes "tfs help [COMMAND]"

abbrev pub purpose_text : Name → List ℕ
purpose_text New = codes "writes the image of a blank chip of N blocks with P chunks each to a new file"
purpose_text Put = codes "writes the bytes of SOURCE into an image as the file NAME, in place of what it held; - is standard input"
purpose_text Get = codes "writes the bytes of the file NAME in an image to the new file DEST; - is standard output"
purpose_text Ls = codes "prints a line for each file in an image: object number, size in bytes, length in chunks, name"
purpose_text Cat = codes "prints the bytes of the file NAME in an image, from position FROM on, at most COUNT"
purpose_text Cut = codes "cuts the file NAME in an image to its first LENGTH chunks of 2,048 bytes"
purpose_text Mv = codes "gives the file NAME in an image the name NEW"
purpose_text Rm = codes "removes the file NAME from an image"
purpose_text Info = codes "prints the sizes of the chip in an image file, and what is on it in all"
purpose_text Dump = codes "prints what each chunk of the chip in an image file is"
purpose_text Collect = codes "cleans one block of the chip in an image: copies what is wanted of it, and erases it"
purpose_text Format = codes "erases all files in an image"
purpose_text Replay = codes "makes the calls in FILE, one on each line, and prints each answer; with no FILE, or -, those on standard input"
purpose_text Demo = codes "shows a flash chip at work while its supply fails"
purpose_text Help = codes "prints what this command is for, or every command"

abbrev pub usage_of : Name → List ℕ
usage_of n = synopsis_text n ++ (codes "\n    " ++ (purpose_text n ++ codes "\n"))

abbrev pub usages_text : List Name → List ℕ
usages_text names = flat_map usage_of names

-- every command, in the order in which one needs them
abbrev pub every_name : List Name
every_name = New ∷ Put ∷ Get ∷ Ls ∷ Cat ∷ Cut ∷ Mv ∷ Rm ∷ Info ∷ Dump ∷ Collect ∷ Format ∷ Replay ∷ Demo ∷ Help ∷ []

abbrev pub usage_text : List ℕ
usage_text = usages_text every_name

abbrev pub misuse_text : Misuse → List ℕ
misuse_text (Unknown w) = codes "no command '" ++ (w.now ++ codes "', see tfs help")
misuse_text (Operands n) = codes "wrong number of words, write " ++ synopsis_text n
misuse_text (NotANumber w) = codes "'" ++ (w.now ++ codes "' is not a number")
misuse_text Sizes = codes "refused: " ++ refusal_text BadSizes
