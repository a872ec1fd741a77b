use Rattle.std.proofs.Common.{arith, ◌≡◌, ℕ, ◌-◌, ◌++◌, length, drop, take, List, sym, subst, ◌∙◌}
use Rattle.std.proofs.lemmas.List.{take_at}
use Rattle.questions.specs.Questions.{OfFile}
use Rattle.rules.specs.Calls.{read_bytes}
use Rattle.store.specs.Stored.{stored}
use Rattle.files.specs.Cat.{asked_for}
use Rattle.files.proofs.Parts.{part_read, room_for}
use Rattle.files.proofs.cat.part_of.Goals as goal

-- src/cat.rt:25:1
pub returns : goal.returns
returns c =
    let s = stored c.args.store.now in
    let was = c.deref_mut.result.now in
    let is = c.read.new.buffer in
    let long : length was ≡ room_for (c.in_ok-size.field-0 - c.args.from) c.args.count = grind (arith, c.deref_mut.ensures.len, c.in_ok-part.ensures.len, c.min-room.ensures, c.unwrap_or.ensures, c.saturating_sub-left.ensures, c.from.ensures) in
    let filled : take c.in_ok-part.part.len (is ++ drop (length is) c.in_ok-part.part.items) ≡ is = take_at is (drop (length is) c.in_ok-part.part.items) c.in_ok-part.part.len (c.read.auto.buffer ∙ c.deref_mut.ensures.len) in
    let read = part_read s c.args.object c.args.from c.in_ok-size.field-0 c.in_ok-read.field-0 c.args.count was is c.in_ok-size.ensures.1 c.in_ok-read.ensures.1 long in
    (c.in_ok-read.ensures.0, subst (λ (ys : List ℕ). OfFile s c.args.object (λ f. ys ≡ read_bytes f c.args.from (asked_for f c.args.count))) (sym filled) read)
