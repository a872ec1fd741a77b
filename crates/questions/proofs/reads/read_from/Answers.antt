use Rattle.std.proofs.Common.{◌≡◌, ℕ, ◌+◌, ◌-◌, ◌/◌, ◌%◌, ◌≤◌, min, List, length, sym, ap, ◌∙◌, subst, arith}
use Rattle.flash.specs.declared.chunks.Look.{Look}
use Rattle.flash.specs.Blocks.{standing}
use Rattle.flash.specs.Model.{blocks_of}
use Rattle.rules.specs.Calls.{byte_at}
use Rattle.rules.specs.Reading.{chunk}
use Rattle.rules.proofs.Filed.{file-at}
use Rattle.tags.specs.Bare.{records}
use Rattle.tags.specs.Finds.{InPlace}
use Rattle.scan.specs.Indexes.{looks_in}
use Rattle.questions.specs.Reads.{laid, counted_at}
use Rattle.questions.proofs.FileBytes.{part-most, read_more, read_all}
use Rattle.questions.proofs.Laying.{laid_none}
use Rattle.questions.proofs.Mirrored.{found-stands, found-bytes}
use Rattle.questions.proofs.reads.read_from.Goals as goal

pub loop-at-init : goal.loop-at-init
loop-at-init g c = (omega arith, λ f k e. laid_none (byte_at f) c.args.position c.args.buffer.now)

pub returns-in_err-at : goal.returns-in_err-at
returns-in_err-at g c = λ f k h e.
    let x = c.args.index.now in
    let found = c.chunk-found.result in
    let place = subst (λ (xs : List Look). InPlace xs found) c.looks-rows.ensures c.chunk-found.ensures.place in
    absurd (c.in_err-at.ensures.bytes k.table.on k.table.sizes (found-stands (g.C.Chip.model c.args.chip.now) x.sizes (looks_in x) k found place))

pub loop-at-preserved : goal.loop-at-preserved
loop-at-preserved g c =
    let s = g.C.Chip.model c.args.chip.now in
    let x = c.args.index.now in
    let here = c.args.position + c.loop-at.at in
    let n = c.in_ok-at.ensures.count in
    let m : c.loop-at.at ≤ c.min-count.result = c.loop-at.invariant.0 in
    let found = c.chunk-found.result in
    let same = c.looks-rows.ensures in (
      part-most c.loop-at.buffer c.loop-at.at c.min-count.result (2048 - here % 2048) c.in_ok-at.field-0 m n,
      λ f k e.
          let place = subst (λ (xs : List Look). InPlace xs found) same c.chunk-found.ensures.place in
          let value = c.chunk-found.ensures.value ∙ ap (λ (xs : List Look). chunk (records xs) c.args.object (here / 2048 + 1)) same in
          let d = c.in_ok-at.ensures.bytes k.table.on k.table.sizes (found-stands s x.sizes (looks_in x) k found place) in
          read_more f (counted_at s found) c.args.position c.loop-at.at c.in_ok-at.field-0 c.min-count.result c.args.buffer.now c.loop-at.buffer c.copy_chunk.new.part m (omega arith) n
          (found-bytes s x.sizes (looks_in x) k c.args.object (here / 2048 + 1) found value place ∙ sym ((file-at (standing (blocks_of s)) c.args.object f e).part' (here / 2048 + 1)))
          (c.loop-at.invariant.1 f k e) d.1,
    )

pub returns : goal.returns
returns g c = λ f k h e.
    let s = g.C.Chip.model c.args.chip.now in
    let n : c.loop-at.at ≡ c.min-count.result = (let l = c.loop-at.invariant.0 in omega arith) in
    read_all s c.args.object c.args.size c.args.position c.min-count.result c.args.buffer.now c.loop-at.buffer h
    (c.min-count.ensures ∙ ap (min (length c.args.buffer.now)) (c.saturating_sub.ensures ∙ ap (λ (i : ℕ). i - c.args.position) c.from.ensures)) f e
    (c.loop-at.invariant.1 f k e ∙ ap (λ (i : ℕ). laid (byte_at f) c.args.position i c.args.buffer.now) n)
