-- Which words are which command, and which are refused and why. Assumes nothing.
use Rattle.std.specs.Prelude.{◌≡◌, ℕ, ◌-◌, ◌<◌, ◌≤◌, true, false, ◌≢◌, ◌⊎◌, List, [], ◌∷◌, map, length, Some, None, Ok, Err, string_bytes, Option, Result, String, slice_index_or}
use Rattle.std.specs.declared.alloc.Global.{Global}
use Rattle.flash.specs.declared.chunks.Sizes.{Sizes as ChipSizes}
use Rattle.rules.specs.Mounting.{sizes_fit}
use Rattle.words.specs.declared.naming.Name.{Name}
use Rattle.words.specs.declared.naming.Name.TheVariants.{New as NewN, Put as PutN, Get as GetN, Ls as LsN, Cat as CatN, Cut as CutN, Mv as MvN, Rm as RmN, Info as InfoN, Dump as DumpN, Collect as CollectN, Format as FormatN, Replay as ReplayN, Demo as DemoN, Help as HelpN}
use Rattle.words.specs.declared.parsing.Command.{Command}
use Rattle.words.specs.declared.parsing.Command.TheVariants.{New, Put, Get, Ls, Cat, Cut, Mv, Rm, Info, Dump, Collect, Format, Replay, Demo, Help, About}
use Rattle.words.specs.declared.parsing.Misuse.{Misuse}
use Rattle.words.specs.declared.parsing.Misuse.TheVariants.{Unknown, Operands, NotANumber, Sizes}
use Rattle.words.specs.Names.{name_text, takes, number_words}
use Rattle.words.specs.declared.streams.Stream.{Stream}
use Rattle.words.specs.declared.streams.Stream.TheVariants.{Standard}
use Rattle.words.specs.Numbers.{number_of}
use Rattle.words.specs.Streams.{StreamBy}

abbrev pub texts_of : List (String Global) → List (List ℕ)
texts_of ws = map string_bytes ws

-- word i, counted from 0
abbrev pub word_at : List (List ℕ) → ℕ → List ℕ
word_at ws i = slice_index_or ws i []

-- the first word is this name, and as many words follow as it takes
pub record Calls (ws : List (List ℕ)) (n : Name) : Type 0 where
  pub some : 0 < length ws
  pub name_is : word_at ws 0 ≡ name_text n
  pub count_is : takes n (length ws - 1) ≡ true

-- two words write the numbers of blocks and chunks of a chip that a store can mount
abbrev pub SizesBy : List ℕ → List ℕ → Result ChipSizes Misuse → Type 0
SizesBy n p (Ok v) = (number_of n ≡ Some v.blocks) × (number_of p ≡ Some v.chunks) × (sizes_fit v.blocks v.chunks ≡ true)
SizesBy n p (Err (Unknown w)) = ⊥
SizesBy n p (Err (Operands m)) = ⊥
SizesBy n p (Err (NotANumber w)) = ((w.now ≡ n) × (number_of n ≡ None)) ⊎ ((number_of n ≢ None) × (w.now ≡ p) × (number_of p ≡ None))
SizesBy n p (Err Sizes) = (a b : ℕ) × (number_of n ≡ Some a) × (number_of p ≡ Some b) × (sizes_fit a b ≡ false)

-- a word that is to be a number
abbrev pub NumeralBy : List ℕ → Result ℕ Misuse → Type 0
NumeralBy t (Ok n) = number_of t ≡ Some n
NumeralBy t (Err (Unknown w)) = ⊥
NumeralBy t (Err (Operands m)) = ⊥
NumeralBy t (Err (NotANumber w)) = (w.now ≡ t) × (number_of t ≡ None)
NumeralBy t (Err Sizes) = ⊥

-- of these words, the first that writes no number
abbrev pub FirstBad : List (List ℕ) → List ℕ → List ℕ → Type 0
FirstBad ws [] w = ⊥
FirstBad ws (i ∷ is) w = (i < length ws) × (((w ≡ word_at ws i) × (number_of (word_at ws i) ≡ None)) ⊎ ((number_of (word_at ws i) ≢ None) × FirstBad ws is w))

-- from where on `cat` is to tell, and how much: the fourth word and the fifth, if they are there
abbrev pub FromBy : List (List ℕ) → ℕ → Type 0
FromBy ws from = ((length ws ≡ 3) × (from ≡ 0)) ⊎ ((3 < length ws) × (number_of (word_at ws 3) ≡ Some from))

abbrev pub CountBy : List (List ℕ) → Option ℕ → Type 0
CountBy ws None = length ws ≤ 4
CountBy ws (Some k) = (4 < length ws) × (number_of (word_at ws 4) ≡ Some k)

-- the script that `replay` is to play: standard input where no word tells
abbrev pub ScriptBy : List (List ℕ) → Stream → Type 0
ScriptBy ws script = ((length ws ≡ 1) × (script ≡ Standard)) ⊎ ((1 < length ws) × StreamBy (word_at ws 1) script)

-- word i stands where a command's name is wanted, and is none
pub record UnknownAt (ws : List (List ℕ)) (i : ℕ) (w : List ℕ) : Type 0 where
  pub there : i < length ws
  pub word : w ≡ word_at ws i
  pub none : (n : Name) → word_at ws i ≢ name_text n

-- no words ask for help
abbrev pub Parsed : List (List ℕ) → Result Command Misuse → Type 0
Parsed ws (Ok (New f a b)) = Calls ws NewN × (f.now ≡ word_at ws 1) × (number_of (word_at ws 2) ≡ Some a) × (number_of (word_at ws 3) ≡ Some b) × (sizes_fit a b ≡ true)
Parsed ws (Ok (Put f n s)) = Calls ws PutN × (f.now ≡ word_at ws 1) × (n.now ≡ word_at ws 2) × StreamBy (word_at ws 3) s
Parsed ws (Ok (Get f n d)) = Calls ws GetN × (f.now ≡ word_at ws 1) × (n.now ≡ word_at ws 2) × StreamBy (word_at ws 3) d
Parsed ws (Ok (Ls f)) = Calls ws LsN × (f.now ≡ word_at ws 1)
Parsed ws (Ok (Cat f n from count)) = Calls ws CatN × (f.now ≡ word_at ws 1) × (n.now ≡ word_at ws 2) × FromBy ws from × CountBy ws count
Parsed ws (Ok (Cut f n k)) = Calls ws CutN × (f.now ≡ word_at ws 1) × (n.now ≡ word_at ws 2) × (number_of (word_at ws 3) ≡ Some k)
Parsed ws (Ok (Mv f n m)) = Calls ws MvN × (f.now ≡ word_at ws 1) × (n.now ≡ word_at ws 2) × (m.now ≡ word_at ws 3)
Parsed ws (Ok (Rm f n)) = Calls ws RmN × (f.now ≡ word_at ws 1) × (n.now ≡ word_at ws 2)
Parsed ws (Ok (Info f)) = Calls ws InfoN × (f.now ≡ word_at ws 1)
Parsed ws (Ok (Dump f)) = Calls ws DumpN × (f.now ≡ word_at ws 1)
Parsed ws (Ok (Collect f)) = Calls ws CollectN × (f.now ≡ word_at ws 1)
Parsed ws (Ok (Format f)) = Calls ws FormatN × (f.now ≡ word_at ws 1)
Parsed ws (Ok (Replay s)) = Calls ws ReplayN × ScriptBy ws s
Parsed ws (Ok Demo) = Calls ws DemoN
Parsed ws (Ok Help) = (length ws ≡ 0) ⊎ (Calls ws HelpN × (length ws ≡ 1))
Parsed ws (Ok (About n)) = Calls ws HelpN × (length ws ≡ 2) × (word_at ws 1 ≡ name_text n)
Parsed ws (Err (Unknown w)) = UnknownAt ws 0 w.now ⊎ (Calls ws HelpN × UnknownAt ws 1 w.now)
Parsed ws (Err (Operands n)) = (0 < length ws) × (word_at ws 0 ≡ name_text n) × (takes n (length ws - 1) ≡ false)
Parsed ws (Err (NotANumber w)) = (n : Name) × Calls ws n × FirstBad ws (number_words n) w.now
Parsed ws (Err Sizes) = Calls ws NewN × ((a b : ℕ) × (number_of (word_at ws 2) ≡ Some a) × (number_of (word_at ws 3) ≡ Some b) × (sizes_fit a b ≡ false))
