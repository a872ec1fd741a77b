use Rattle.std.proofs.Common.{ℕ, List, Option, sym, refl, subst, arith}
use Rattle.rules.specs.Calls.{byte_in}
use Rattle.tags.specs.declared.finds.Found.{Found}
use Rattle.questions.specs.Reads.{Stands, counted_at}
use Rattle.questions.proofs.Fetching.{fetch-taken, fetch-counted}
use Rattle.questions.proofs.Laying.{Shown, shown-none, shown-some, copied}
use Rattle.questions.proofs.reads.copy_chunk.Goals as goal
use Rattle.questions.proofs.reads.copy_chunk.Goals.{in-Some+in_ok-fetch, in_default}

pub returns-in_err-fetch-clause-bytes : goal.returns-in_err-fetch-clause-bytes
returns-in_err-fetch-clause-bytes g c = λ on sized stands.
    let s = g.C.Chip.model c.args.chip.now in
    absurd (fetch-taken s c.args.index.now.sizes c.place_of.result c.in-Some.found sized (subst (Stands s) c.in-Some.is stands) c.place_of.ensures.block c.place_of.ensures.chunk
    c.in_err-fetch.field-0.0 on c.in_err-fetch.ensures.0)

pub returns-clause-bytes : goal.returns-clause-bytes
returns-clause-bytes g c = λ on sized stands.
    let s = g.C.Chip.model c.args.chip.now in
    let bytes = c.match-found.bytes in
    let n = c.min-count.ensures in
    let o = c.requires.offset in
    let shown : Shown (byte_in (counted_at s c.args.found)) bytes =
    elim c.match-found.branch [
      | in-Some+in_ok-fetch w ↦ (
          let counted = fetch-counted s c.args.index.now.sizes w.place_of.result w.in-Some.found sized (subst (Stands s) w.in-Some.is stands) w.place_of.ensures.block w.place_of.ensures.chunk
          w.fetch.new.buffer w.in_ok-fetch.ensures in
          subst (λ (x : Option Found). Shown (byte_in (counted_at s x)) bytes) (sym w.in-Some.is)
          (subst (λ (x : Option (List ℕ)). Shown (byte_in x) bytes) (sym counted)
          (shown-some w.in-Some.found.tag.third w.min-counted.result w.fetch.new.buffer w.fill.new.self bytes
          w.fetch.array_long w.min-counted.ensures (w.fill.ensures.after (λ y e. e)) w.bytes-is)))
      | in_default w ↦
          subst (λ (x : Option Found). Shown (byte_in (counted_at s x)) bytes) (sym w.in_default.is) (shown-none 2048 bytes refl w.bytes-is)
    ] in
    (n, copied (byte_in (counted_at s c.args.found)) bytes c.copy_from_slice.new.self c.args.part.now c.args.offset c.min-count.result shown (omega arith) (omega arith) c.copy_from_slice.ensures.after)
