-- One more chunk looked at, and all of them. Assumes nothing.
use Rattle.std.proofs.Common.{◌≡◌, ℕ, ◌+◌, ◌*◌, ◌/◌, ◌%◌, ◌<◌, ◌≤◌, ◌≢◌, List, length, get_or, set, sym, ap, ◌∙◌, subst, ⊎_elim, arith}
use lib.Arith.{digits_lt, digits_div, digits_mod}
use Rattle.std.proofs.lemmas.List.{get_or-set_same, get_or-set_other}
use Rattle.std.proofs.lemmas.Bool.{cases_eq}
use Rattle.flash.specs.declared.chunks.Look.{Look}
use Rattle.flash.specs.declared.chunks.Look.TheVariants.{Blank}
use Rattle.flash.specs.declared.chunks.Place.{Place}
use Rattle.flash.specs.Chunks.{look_of, WholeChunk}
use Rattle.flash.specs.Model.{State, blocks_of}
use Rattle.flash.specs.Reads.{LookDone}
use Rattle.scan.specs.Flat.{looks_of}
use Rattle.scan.specs.Scans.{AllWhole, ScannedTo}
use Rattle.scan.proofs.Flat.{rows_are}

pub scanned-more : (s : State) (q : Place) (v : Look) (i : ℕ) (xs : List Look) → i < length xs → q.block ≡ i / s.p → q.chunk ≡ i % s.p → LookDone s q v → ScannedTo s i xs → ScannedTo s (i + 1) (set xs i v)
scanned-more s q v i xs h eb ec d t = record {
  seen = λ k l. ⊎_elim
      (λ (x : k ≡ i). ap (λ (z : ℕ). get_or (set xs i v) z Blank) x ∙ get_or-set_same xs i v Blank h ∙ d.tells ∙ ap (λ (z : ℕ). look_of (s.cells z q.chunk)) (eb ∙ ap (λ (z : ℕ). z / s.p) (sym x))
      ∙ ap (λ (z : ℕ). look_of (s.cells (k / s.p) z)) (ec ∙ ap (λ (z : ℕ). z % s.p) (sym x)))
      (λ (x : k ≢ i). get_or-set_other xs i k v Blank x ∙ t.seen k (omega arith))
      (cases_eq k i);
  whole = λ k l. ⊎_elim
      (λ (x : k ≡ i). subst (λ (z : ℕ). WholeChunk (s.cells (z / s.p) (z % s.p))) (sym x) (subst (λ (z : ℕ). WholeChunk (s.cells (i / s.p) z)) ec (subst (λ (z : ℕ). WholeChunk (s.cells z q.chunk)) eb d.whole)))
      (λ (x : k ≢ i). t.whole k (omega arith))
      (cases_eq k i);
}

pub scanned-all : (s : State) (i : ℕ) (xs : List Look) → length xs ≡ s.n * s.p → s.n * s.p ≤ i → ScannedTo s i xs → (xs ≡ looks_of (blocks_of s)) × AllWhole s
scanned-all s i xs l h t = (
  rows_are s xs l (λ k m. t.seen k (omega arith)),
  λ b c hb hc. (let m : b * s.p + c < s.n * s.p = digits_lt hb hc in
      subst (λ (z : ℕ). WholeChunk (s.cells z c)) (digits_div b hc) (subst (λ (z : ℕ). WholeChunk (s.cells ((b * s.p + c) / s.p) z)) (digits_mod b hc) (t.whole (b * s.p + c) (omega arith)))),
)
