-- The names of the commands, and how many words follow each. Assumes nothing.
use Rattle.std.specs.Prelude.{◌≡◌, ℕ, ◌≢◌, Bool, List, [], ◌∷◌, Some, None, codes, Option}
use Rattle.rules.specs.Lists.{within}
use Rattle.words.specs.declared.naming.Name.{Name}
use Rattle.words.specs.declared.naming.Name.TheVariants.{New, Put, Get, Ls, Cat, Cut, Mv, Rm, Info, Dump, Collect, Format, Replay, Demo, Help}

abbrev pub name_text : Name → List ℕ
name_text New = codes "new"
name_text Put = codes "put"
name_text Get = codes "get"
name_text Ls = codes "ls"
name_text Cat = codes "cat"
name_text Cut = codes "cut"
name_text Mv = codes "mv"
name_text Rm = codes "rm"
name_text Info = codes "info"
name_text Dump = codes "dump"
name_text Collect = codes "collect"
name_text Format = codes "format"
name_text Replay = codes "replay"
name_text Demo = codes "demo"
name_text Help = codes "help"

-- a word names a command, or none
abbrev pub Named : List ℕ → Option Name → Type 0
Named w (Some n) = w ≡ name_text n
Named w None = (n : Name) → w ≢ name_text n

-- whether so many words may follow a name
abbrev pub takes : Name → ℕ → Bool
takes New k = within 3 3 k
takes Put k = within 3 3 k
takes Get k = within 3 3 k
takes Ls k = within 1 1 k
takes Cat k = within 2 4 k
takes Cut k = within 3 3 k
takes Mv k = within 3 3 k
takes Rm k = within 2 2 k
takes Info k = within 1 1 k
takes Dump k = within 1 1 k
takes Collect k = within 1 1 k
takes Format k = within 1 1 k
takes Replay k = within 0 1 k
takes Demo k = within 0 0 k
takes Help k = within 0 1 k

-- which words are to be numbers, where the name is word 0
abbrev pub number_words : Name → List ℕ
number_words New = 2 ∷ 3 ∷ []
number_words Put = []
number_words Get = []
number_words Ls = []
number_words Cat = 3 ∷ 4 ∷ []
number_words Cut = 3 ∷ []
number_words Mv = []
number_words Rm = []
number_words Info = []
number_words Dump = []
number_words Collect = []
number_words Format = []
number_words Replay = []
number_words Demo = []
number_words Help = []
