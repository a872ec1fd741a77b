-- The record of each change makes of the files what the accepted change makes of them. Assumes nothing.
use Rattle.std.proofs.Common.{◌≡◌, ℕ, ◌<◌, ◌≤◌, true, List, ◌∷◌, Some, None, Option, refl, ap, ◌∙◌, arith}
use Rattle.std.proofs.lemmas.List.{take_at}
use Rattle.flash.specs.declared.chunks.Record.{Record}
use Rattle.rules.specs.Lists.{Among}
use Rattle.rules.specs.Records.{kind, kind_by, object, object_by}
use Rattle.rules.specs.Reading.{header, present, files, File}
use Rattle.rules.specs.Calls.{create, put, cut, rename, delete, opens, closes, collect, mount, record_by, name_of, long_of}
use Rattle.rules.specs.Right.{changed, fresh, with_part, shortened, renamed}
use Rattle.rules.specs.Laws.{AddingIsRight}
use Rattle.rules.specs.declared.kinds.Kind.{Kind}
use Rattle.rules.specs.declared.kinds.Kind.TheVariants.{Data as data_k}
use Rattle.rules.proofs.Adding.{files-other, create-file, put-file, cut-file, rename-file, delete-file, was}

-- a change of one object's file, seen at any object
pub at-object : (rs : List Record) (r : Record) (o : ℕ) → object r ≡ o → ((s : Record) → Among s rs → s.tag.serial < r.tag.serial) → (f : Option File → Option File)
    → files (r ∷ rs) o ≡ f (files rs o) → (k : ℕ) → files (r ∷ rs) k ≡ changed (files rs) o f k
at-object rs r o of l f e k = grind (arith, files-other)

pub some-header : (rs : List Record) (o : ℕ) → present rs o ≡ true → (h : Record) × (header rs o ≡ Some h)
unfolding present
some-header rs o e = grind arith

pub data-kind : (j : ℕ) → 1 ≤ j → j ≤ 1000 → kind_by j ≡ data_k
unfolding kind_by
data-kind j a b = grind arith

pub adding-is-right : AddingIsRight
unfolding object kind kind_by
adding-is-right w n rs (create o name) last ok k =
    let r = record_by w n (files rs) (create o name) in
    let of : object r ≡ o = omega arith in
    at-object rs r o of last (fresh name)
    (create-file rs r last o of refl refl (files rs o) ∙ ap (λ (n : List ℕ). fresh n (files rs o)) (take_at name _ _ refl)) k
adding-is-right w n rs (put o j bs) last ok k =
    let r = record_by w n (files rs) (put o j bs) in
    let kd : kind r ≡ data_k = data-kind j ok.1 ok.2 in
    let of : object r ≡ o = ap (λ (z : Kind). object_by z o) kd in
    let h = some-header rs o ok.0 in
    at-object rs r o of last (with_part j bs)
    (grind (arith, put-file, take_at)) k
adding-is-right w n rs (cut o l) last ok k =
    let r = record_by w n (files rs) (cut o l) in
    let of : object r ≡ o = omega arith in
    let h = some-header rs o ok in
    at-object rs r o of last (shortened l)
    (cut-file rs r last o of h.0 h.1 refl (take_at (name_of (files rs o)) _ _ refl ∙ ap name_of (was rs r last o of h.0 h.1))) k
adding-is-right w n rs (rename o name) last ok k =
    let r = record_by w n (files rs) (rename o name) in
    let of : object r ≡ o = omega arith in
    let h = some-header rs o ok in
    at-object rs r o of last (renamed name)
    (rename-file rs r last o of h.0 h.1 refl (ap long_of (was rs r last o of h.0 h.1)) ∙ ap (λ (n : List ℕ). renamed n (files rs o)) (take_at name _ _ refl)) k
adding-is-right w n rs (delete o) last ok k =
    let r = record_by w n (files rs) (delete o) in
    let of : object r ≡ o = omega arith in
    at-object rs r o of last (λ f. None) (delete-file rs r last o of refl) k
adding-is-right w n rs (opens o) last ok k = absurd ok
adding-is-right w n rs (closes o) last ok k = absurd ok
adding-is-right w n rs collect last ok k = absurd ok
adding-is-right w n rs mount last ok k = absurd ok
