use Rattle.std.proofs.Common.{◌≡◌, ℕ, ◌<◌, length, refl, arith, rules}
use borrow.Author.Tests.{tests}
use Rattle.std.proofs.lemmas.Iterator.Consumers.{YieldsList-at, YieldsList-from_enumerate, YieldsList-from_filter_map}
use Rattle.rules.specs.Calls.{objects}
use Rattle.reading.specs.Sizes.{length_of, size_of}
use Rattle.tags.specs.Bare.{records}
use Rattle.questions.specs.Lists.{row_by, table_rows}
use Rattle.questions.proofs.Listing.{objects_yielded, row_turn, rows_end, laid_one, laid_all}
use Rattle.questions.proofs.lists.list_into.Goals as goal

pub loop-at-init : goal.loop-at-init
loop-at-init c = refl

turn : (c : goal.After-row-1) → (c.in-Some.at ≡ length c.loop-at.yielded) × (length c.loop-at.yielded < length (table_rows (records c.args.looks.now) objects))
turn c =
    let rs = records c.args.looks.now in
    row_turn _ _ _ (table_rows rs objects) c.loop-at.yielded c.loop-at.yielded_by _ c.next.ensures.steps (c.in-Some.at, c.in-Some.row) c.in-Some.is
    (YieldsList-at c.into_iter-at-iterator.ensures.into_iter_gives (YieldsList-from_enumerate (YieldsList-at c.enumerate-at-items.ensures.source
    (YieldsList-from_filter_map _ (λ (o : ℕ). row_by o (length_of rs o) (size_of rs o)) (YieldsList-at c.filter_map-files.ensures.source (objects_yielded c.new.result c.new.ensures.start c.new.ensures.end c.new.ensures.exhausted))
    c.filter_map-files.ensures.closure (λ y r q k. search (rules, tests)))) (cc)))

pub bounds-rows-at : goal.bounds-rows-at
bounds-rows-at c = omega (arith, turn c, c.requires, c.loop-at.auto.rows)

pub loop-at-preserved : goal.loop-at-preserved
loop-at-preserved c = laid_one c.loop-at.rows c.args.rows.now c.loop-at.yielded c.in-Some.at c.in-Some.row (turn c).0 (omega (arith, turn c, c.requires)) c.loop-at.invariant

pub returns : goal.returns
returns c =
    let rs = records c.args.looks.now in
    laid_all c.loop-at.rows c.args.rows.now (table_rows rs objects) c.loop-at.yielded
    (rows_end _ _ _ (table_rows rs objects) c.loop-at.yielded c.loop-at.yielded_by _ c.next.ensures.steps c.in-None.is
    (YieldsList-at c.into_iter-at-iterator.ensures.into_iter_gives (YieldsList-from_enumerate (YieldsList-at c.enumerate-at-items.ensures.source
    (YieldsList-from_filter_map _ (λ (o : ℕ). row_by o (length_of rs o) (size_of rs o)) (YieldsList-at c.filter_map-files.ensures.source (objects_yielded c.new.result c.new.ensures.start c.new.ensures.end c.new.ensures.exhausted))
    c.filter_map-files.ensures.closure (λ y r q k. search (rules, tests)))) (cc))))
    c.loop-at.invariant
