use Rattle.std.proofs.Common.{sym, ap, ◌∙◌, rules, tests}
use Rattle.std.specs.Option.{unwrap_or}
use Rattle.std.proofs.lemmas.Iterator.{YieldsList-from_slice}
use Rattle.std.proofs.lemmas.Iterator.Adapters.{option_map_id}
use Rattle.std.proofs.lemmas.Iterator.Consumers.{YieldsList-from_filter_map, max_from_yields_List}
use Rattle.flash.specs.Chunks.{tag_in}
use Rattle.rules.specs.Reading.{highest_chunk}
use Rattle.tags.specs.Bare.{records}
use Rattle.reading.specs.Hiders.{shown_by}
use Rattle.reading.proofs.Highest.{highest-by-hiders, largest-shown}
use Rattle.reading.proofs.lengths.highest_chunk.Goals as goal

pub returns : goal.returns
returns c =
    let hiders = c.tell.new.self in
    let shown = shown_by hiders.serials hiders.object in
    c.unwrap_or.ensures
    ∙ ap (λ m. unwrap_or m 0)
    (sym (option_map_id c.max.result)
    ∙ max_from_yields_List c.filter_map.result c.max.result c.max.ensures.ran
    (YieldsList-from_filter_map _ shown (YieldsList-from_filter_map _ tag_in (YieldsList-from_slice c.args.looks.now cc) c.filter_map-tags.ensures.closure (λ x r q k. search (rules, tests))) c.filter_map.ensures.closure (λ x r q k. search (rules, tests))))
    ∙ largest-shown shown c.args.looks.now
    ∙ highest-by-hiders (records c.args.looks.now) hiders.object hiders.serials c.tell.ensures.tells
    ∙ ap (highest_chunk (records c.args.looks.now)) c.tell.ensures.object
