use Rattle.std.proofs.Common.{◌≡◌, List, ◌++◌, Err, MatchResult, string_bytes, sym, subst, ap, ◌∙◌, rules}
use Rattle.bench.specs.declared.benches.BenchChip.{BenchChip}
use Rattle.bench.specs.Benches.{state_of}
use Rattle.flash.specs.Model.{State, started}
use Rattle.lines.specs.Chunks.{chip_lines}
use Rattle.rules.specs.Calls.{Call}
use Rattle.store.specs.Stored.{stored}
use Rattle.demos.specs.Demos.{Demonstrated, NotTold, Played, all_lines}
use Rattle.demos.specs.Story.{first_calls, second_calls, begins, fails, goes_on, ends}
use Rattle.demos.proofs.Lines.{more, from_start}
use Rattle.demos.proofs.Mounting.{blank_accepted, played_accepted, only_told}
use Rattle.demos.proofs.demo.demo.Goals as goal

pub returns-in_err-store : goal.returns-in_err-store
returns-in_err-store c =
    let why = c.in_err-store.field-0.0 in
    let h : NotTold why = only_told (state_of c.in_ok-chip.chip) why (blank_accepted (state_of c.in_ok-chip.chip) c.in_ok-chip.ensures) c.in_err-store.ensures in
    let r : c.from_residual-in_err-store.result ≡ Err why = search rules in
    subst (λ k. MatchResult k (λ v. Demonstrated (string_bytes v)) NotTold) (sym r) h

pub returns-in_err-store-2 : goal.returns-in_err-store-2
returns-in_err-store-2 c =
    let why = c.in_err-store-2.field-0.0 in
    let p = c.in_ok-store.ensures.played in
    let again : state_of c.restart.new.self ≡ started (state_of c.in_ok-store.store.chip) = c.restart.ensures.rules ∙ ap (λ (k : BenchChip). started (state_of k)) c.release-chip.ensures in
    let h : NotTold why = only_told (state_of c.restart.new.self) why (played_accepted _ _ _ _ _ _ p again) c.in_err-store-2.ensures in
    let r : c.from_residual-in_err-store-2.result ≡ Err why = search rules in
    subst (λ k. MatchResult k (λ v. Demonstrated (string_bytes v)) NotTold) (sym r) h

pub returns : goal.returns
returns c =
    let p = c.in_ok-store.ensures in
    let q = c.in_ok-store-2.ensures in
    let blank = state_of c.in_ok-chip.chip in
    let broken = state_of c.in_ok-store.store.chip in
    let stopped = stored c.in_ok-store.store in
    let restarted = state_of c.restart.new.self in
    let chip = state_of c.in_ok-store-2.store.chip in
    let store = stored c.in_ok-store-2.store in
    let number : c.in_ok-file.file.number ≡ 257 = c.in_ok-file.ensures.0 in
    let again : restarted ≡ started broken = c.restart.ensures.rules ∙ ap (λ (k : BenchChip). started (state_of k)) c.release-chip.ensures in
    let shown : string_bytes c.chip_lines.new.out ≡ string_bytes c.push_str-2.new.self ++ chip_lines (started broken) broken.n =
    c.in_ok-chip_lines.ensures ∙ ap (λ (k : State). string_bytes c.push_str-2.new.self ++ chip_lines k k.n) again in
    let w7 = more _ _ ends (all_lines store) _ c.in_ok-push_str-4.ensures.bytes c.in_ok-all_lines.ensures.lines in
    let w6 = more _ _ q.text _ _ q.added w7 in
    let w5 = more _ _ goes_on _ _ c.in_ok-push_str-3.ensures.bytes w6 in
    let w4 = more _ _ (chip_lines (started broken) broken.n) _ _ shown w5 in
    let w3 = more _ _ fails _ _ c.in_ok-push_str-2.ensures.bytes w4 in
    let w2 = more _ _ p.text _ _ p.added w3 in
    let w1 = more _ _ begins _ _ c.in_ok-push_str.ensures.bytes w2 in
    record {
      blank = blank;
      is_blank = c.in_ok-chip.ensures;
      first_told = p.text;
      broken = broken;
      stopped = stopped;
      first = subst (λ (calls : List Call). Played blank calls p.text broken stopped) (c.first.ensures ∙ ap first_calls number) p.played;
      second_told = q.text;
      chip = chip;
      store = store;
      second = subst (λ (k : State). Played k (second_calls 257) q.text chip store) again (subst (λ (calls : List Call). Played restarted calls q.text chip store) (c.second.ensures ∙ ap second_calls number) q.played);
      whole = from_start _ _ _ c.new-out.ensures.bytes w1;
    }
