-- Why a command gives nothing, as bytes of text. Assumes nothing.
use Rattle.std.specs.Prelude.{ℕ, List, ◌++◌, codes}
use Rattle.flash.specs.Words.{misfit_text}
use Rattle.scan.specs.Words.{refusal_text}
use Rattle.texts.specs.declared.stops.Stop.{Stop}
use Rattle.texts.specs.declared.stops.Stop.TheVariants.{Memory, Refused, Store}

abbrev pub stop_text : Stop → List ℕ
stop_text Memory = codes "no memory is left"
stop_text (Refused m) = codes "refused: " ++ misfit_text m
stop_text (Store e) = codes "refused: " ++ refusal_text e
