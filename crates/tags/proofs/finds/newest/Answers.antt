use Rattle.std.proofs.Common.{◌≡◌, Bool, rules, tests, of_calls}
use Rattle.std.specs.Iterator.{ActsAs}
use Rattle.std.proofs.lemmas.Iterator.{YieldsList-from_slice}
use Rattle.std.proofs.lemmas.Iterator.Consumers.{YieldsList-from_enumerate, YieldsList-from_filter_map, YieldsList-from_filter}
use Rattle.flash.specs.declared.chunks.Record.{Record}
use Rattle.tags.specs.declared.finds.Found.{Found}
use Rattle.tags.specs.Bare.{bare_tag}
use Rattle.tags.specs.Steps.{found_in, newer_of}
use Rattle.tags.proofs.Finding.{best, found-value, found-place}
use Rattle.tags.proofs.Reducing.{reduce_from_calls}
use Rattle.tags.proofs.finds.newest.Given as given
use Rattle.tags.proofs.finds.newest.Goals as goal

found : (g : given.Over) (c : goal.After-drop-test g) (p : Record → Bool) → ActsAs g.F.Fn c.args.test (λ t. p (bare_tag t)) → c.reduce.result ≡ best p 0 c.args.looks.now
found g c p acts =
    reduce_from_calls newer_of _ _ c.reduce.ensures.ran
    (YieldsList-from_filter _ (λ (f : Found). p (bare_tag f.tag))
    (YieldsList-from_filter_map _ (λ x. found_in x.0 x.1) (YieldsList-from_enumerate (YieldsList-from_slice c.args.looks.now cc) (cc)) (cc) (λ x r q k. search (rules, tests)))
    c.filter.ensures.closure
    (λ x b q k. search (of_calls, acts)))
    (λ a x b q k. search (rules, tests))

pub returns : goal.returns
returns g c =
    record {
      value = λ p acts. found-value p c.args.looks.now c.reduce.result (found g c p acts);
      place = λ p acts. found-place p c.args.looks.now c.reduce.result (found g c p acts);
    }
