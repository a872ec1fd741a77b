use Rattle.std.proofs.Common.{◌≡◌, [], refl, sym, ◌∙◌, subst, rules, tests}
use Rattle.std.specs.List.{filter_map}
use Rattle.std.proofs.lemmas.List.{map-id}
use Rattle.std.proofs.lemmas.Iterator.{YieldsList-from_slice}
use Rattle.std.proofs.lemmas.Iterator.Consumers.{YieldsList-from_filter_map, YieldsList-end}
use Rattle.flash.specs.Chunks.{tag_in}
use Rattle.reading.proofs.Hiding.{Noting, noting-none, hidden-by}
use Rattle.reading.proofs.hiders.Hiders.tell.Goals as goal

pub loop-tag-init : goal.loop-tag-init
loop-tag-init c =
    let o = c.args.self.now.object in
    record { of = refl; noted = subst (Noting o []) (sym c.requires) (noting-none o) }

pub returns-clause-tells : goal.returns-clause-tells
returns-clause-tells c =
    let o = c.args.self.now.object in
    let all : c.loop-tag.yielded ≡ filter_map tag_in c.args.looks.now =
    sym (map-id c.loop-tag.yielded)
    ∙ (YieldsList-end (YieldsList-from_filter_map _ tag_in (YieldsList-from_slice c.args.looks.now cc) (cc) (λ x r q k. search (rules, tests))) c.loop-tag.yielded c.loop-tag.tag-iterator c.loop-tag.yielded_by c.next.result c.next.new.self c.in-None.is c.next.ensures.steps).0 in
    λ d of isdata.
    hidden-by c.args.looks.now o c.loop-tag.self.serials c.carry.new.self.serials (subst (λ ts. Noting o ts c.loop-tag.self.serials) all c.loop-tag.invariant.noted) c.carry.ensures.carried
    d (of ∙ c.carry.ensures.object ∙ c.loop-tag.invariant.of) isdata
