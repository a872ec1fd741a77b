-- A part of a file, read into a buffer of its length. Assumes nothing.
use Rattle.std.proofs.Common.{◌≡◌, ℕ, ◌-◌, ◌≤◌, min, List, [], ◌++◌, length, drop, Some, None, Option, ap, sym, ◌∙◌, arith}
use Rattle.std.proofs.lemmas.List.{drop_all, append-nil}
use Rattle.std.specs.Option.{unwrap_or}
use Rattle.flash.specs.Model.{tab}
use Rattle.questions.specs.Questions.{OfFile}
use Rattle.rules.specs.Calls.{byte_at, read_count, read_bytes, read_into}
use Rattle.rules.specs.Reading.{File, size}
use Rattle.rules.specs.Refusals.{Store}
use Rattle.rules.proofs.Filed.{some_is}
use Rattle.files.specs.Cat.{asked_for}

-- as many bytes are read, whatever else the buffer holds
same_part : (f : File) (from a b : ℕ) → min a (size f - from) ≡ min b (size f - from) → read_bytes f from a ≡ read_bytes f from b
unfolding read_bytes
same_part f from a b e = ap (λ (n : ℕ). tab (byte_at f) from n) e

-- a buffer no longer than what there is to read is filled
filled : (f : File) (from : ℕ) (was : List ℕ) → length was ≤ size f - from → read_into f from was ≡ read_bytes f from (length was)
filled f from was h =
    let e : drop (read_count f from (length was)) was ≡ [] = drop_all (read_count f from (length was)) was (omega (arith, h)) in
    ap (λ (ys : List ℕ). read_bytes f from (length was) ++ ys) e ∙ append-nil (read_bytes f from (length was))

-- the room for what is asked for, where so many bytes are left
abbrev pub room_for : ℕ → Option ℕ → ℕ
room_for left count = min left (unwrap_or count left)

room-asked : (f : File) (from : ℕ) (count : Option ℕ) → min (room_for (size f - from) count) (size f - from) ≡ min (asked_for f count) (size f - from)
room-asked f from None = omega arith
room-asked f from (Some n) = omega arith

part-read : (f : File) (from : ℕ) (count : Option ℕ) (was : List ℕ) → length was ≡ room_for (size f - from) count → read_into f from was ≡ read_bytes f from (asked_for f count)
part-read f from count was l =
    filled f from was (omega (arith, l))
    ∙ same_part f from (length was) (asked_for f count) (ap (λ (n : ℕ). min n (size f - from)) l ∙ room-asked f from count)

pub part_read : (s : Store) (o from n m : ℕ) (count : Option ℕ) (was is : List ℕ) → OfFile s o (λ f. n ≡ size f) → OfFile s o (λ f. (m ≡ read_count f from (length was)) × (is ≡ read_into f from was)) → length was ≡ room_for (n - from) count → OfFile s o (λ f. is ≡ read_bytes f from (asked_for f count))
part_read s o from n m count was is (f, e, h) (g, e', h') l =
    let same : g ≡ f = some_is g f (sym e' ∙ e) in
    let l' : length was ≡ room_for (size g - from) count = l ∙ ap (λ (k : ℕ). room_for (k - from) count) (h ∙ ap size (sym same)) in
    (g, e', h'.1 ∙ part-read g from count was l')
