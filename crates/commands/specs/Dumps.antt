-- What is told of an image file. Assumes nothing.
use Rattle.std.specs.Prelude.{◌≡◌, ℕ, List, ◌++◌, Ok, Err, string_bytes, Result, String}
use Rattle.std.specs.declared.alloc.Global.{Global}
use Rattle.flash.specs.Faults.{misfit_number}
use Rattle.flash.specs.Model.{State, started}
use Rattle.image.specs.Format.{misfit, chip_of}
use Rattle.texts.specs.declared.stops.Stop.{Stop}
use Rattle.texts.specs.declared.stops.Stop.TheVariants.{Memory, Refused, Store}
use Rattle.lines.specs.Chunks.{chip_lines}
use Rattle.lines.specs.Heads.{head_line}

-- sizes and power, and then every chunk, as a look tells it once the chip is on
abbrev pub dump_text : State → List ℕ
dump_text s = head_line s.n s.p s.on ++ chip_lines (started s) s.n

-- bytes that are no image are refused, with the number of the reason
abbrev pub Dumped : List ℕ → Result (String Global) Stop → Type 0
Dumped xs (Ok v) = (misfit xs ≡ 0) × (string_bytes v ≡ dump_text (chip_of xs))
Dumped xs (Err Memory) = Unit {0}
Dumped xs (Err (Refused m)) = misfit xs ≡ misfit_number m
Dumped xs (Err (Store e)) = ⊥
