-- The bytes of one chunk, as they are read and as they are written. Assumes nothing.
use Rattle.std.proofs.Common.{◌≡◌, ℕ, ◌+◌, ◌*◌, ◌/◌, ◌%◌, ◌^◌, ◌<◌, ◌≤◌, List, [], ◌∷◌, ◌++◌, length, get_or, take, set, sym, ap, ◌∙◌, arith, rules}
use borrow.Rule.Slice.PartMut.{put_mid}
use Rattle.std.proofs.lemmas.Nat.{from_le_bytes-to_le_bytes_4}
use Rattle.std.proofs.lemmas.List.{places, length-drop, length-set, take_all, take_more_set}
use Rattle.std.proofs.lemmas.Slice.{take-put_mid}
use Rattle.std.proofs.lemmas.Bool.Decides.{nat_tests}
use Rattle.flash.specs.declared.chunks.Record.{Record}
use Rattle.flash.specs.declared.chunks.Chunk.TheVariants.{Blank, Holds}
use Rattle.flash.specs.Chunks.{Whole}
use Rattle.image.specs.Format.{data_of, chunk_of}
use Rattle.image.specs.Codes.{four_bytes, code_of}

pub blank-told : (ys : List ℕ) → get_or ys 0 0 ≡ 255 → chunk_of ys ≡ Blank
blank-told ys e = grind (arith, nat_tests)

pub blank-state : (ys : List ℕ) → chunk_of ys ≡ Blank → get_or ys 0 0 ≡ 255
blank-state ys e = grind (arith, nat_tests)

-- the data of a chunk is all that follows byte 17
pub all_data : (ys : List ℕ) → length ys ≡ 2065 → take 2048 (data_of ys) ≡ data_of ys
all_data ys l = take_all 2048 (data_of ys) (omega (arith, length-drop 17 ys))

four : (n : ℕ) → n < 2 ^ 32 → n % 256 + n / 256 % 256 * 256 + n / 65536 % 256 * 65536 + n / 16777216 % 256 * 16777216 ≡ n
four n h = from_le_bytes-to_le_bytes_4 n h

-- a chunk whose first n bytes have been written
record Front (xs : List ℕ) (n : ℕ) (p : List ℕ) : Type 0 where
  front : take n xs ≡ p
  long : length xs ≡ 2065

begin : (xs : List ℕ) (v : ℕ) → length xs ≡ 2065 → Front (set xs 0 v) 1 (v ∷ [])
begin xs v l = record { front = take_more_set xs 0 v (omega arith); long = length-set xs 0 v ∙ l }

more : (xs ys p : List ℕ) (n k : ℕ) → Front xs n p → n + k ≤ 2065 → length ys ≡ k → Front (put_mid n k xs ys) (n + k) (p ++ ys)
more xs ys p n k f h e =
    let l = f.long in
    record { front = take-put_mid n k xs ys (n + k) (omega arith) (omega arith) ∙ ap (λ (z : List ℕ). z ++ ys) f.front; long = search (rules, places) }

-- a record written over a chunk: state, numbers and data
pub written : (xs ns ds : List ℕ) (r : Record) → length xs ≡ 2065
    → ns ≡ four_bytes r.tag.first ++ (four_bytes r.tag.second ++ (four_bytes r.tag.third ++ four_bytes r.tag.serial)) → ds ≡ r.bytes → length ds ≡ 2048
    → put_mid 17 2048 (put_mid 1 16 (set xs 0 1) ns) ds ≡ code_of r
written xs ns ds r l en ed ld =
    let f1 = more (set xs 0 1) ns (1 ∷ []) 1 16 (begin xs 1 l) (omega arith) (ap length en) in
    let f2 = more _ ds _ 17 2048 f1 (omega arith) ld in
    sym (take_all 2065 (put_mid 17 2048 (put_mid 1 16 (set xs 0 1) ns) ds) (omega (arith, f2.long)))
    ∙ f2.front ∙ (λ i. ((1 ∷ []) ++ en i) ++ ed i)

-- what was written is what is read
pub record-read : (r : Record) → Whole r → chunk_of (code_of r) ≡ Holds r
record-read r w = λ i. Holds (record {
  tag = record {
    first = four r.tag.first w.first i;
    second = four r.tag.second w.second i;
    third = four r.tag.third w.third i;
    serial = four r.tag.serial w.serial i;
  };
  bytes = r.bytes;
})

pub length-code : (r : Record) → Whole r → length (code_of r) ≡ 2065
length-code r w = omega (arith, w.bytes)
