-- Where bytes come from or go to. Assumes nothing.
use Rattle.std.specs.Prelude.{◌≡◌, ℕ, ◌≢◌, List, codes}
use Rattle.words.specs.declared.streams.Stream.{Stream}
use Rattle.words.specs.declared.streams.Stream.TheVariants.{Standard, File}

-- a hyphen stands for standard input or output, any other word for the file of that path
abbrev pub StreamBy : List ℕ → Stream → Type 0
StreamBy w Standard = w ≡ codes "-"
StreamBy w (File path) = (w ≢ codes "-") × (path.now ≡ w)
