-- The bytes of a file, chunk by chunk. Assumes nothing.
use Rattle.std.proofs.Common.{◌≡◌, ℕ, zero, suc, ◌+◌, ◌-◌, ◌*◌, ◌/◌, ◌%◌, ◌<◌, ◌≤◌, min, List, length, take, drop, Some, None, Ok, Option, sym, refl, ap, ◌∙◌, subst, arith}
use borrow.Rule.Slice.PartMut.{put_mid}
use Rattle.std.proofs.lemmas.List.{length-take}
use Rattle.std.specs.Option.{option_map}
use Rattle.flash.specs.declared.chunks.Record.{Record}
use Rattle.flash.specs.Blocks.{standing}
use Rattle.flash.specs.Chunks.{Whole}
use Rattle.flash.specs.Model.{State, blocks_of}
use Rattle.rules.specs.Calls.{byte_in, byte_at, read_bytes}
use Rattle.rules.specs.Lists.{Among}
use Rattle.rules.specs.Reading.{File, files, size, size_at, last_count, chunk, bytes_in}
use Rattle.rules.proofs.Filed.{file-at, chunk-at}
use Rattle.questions.specs.Reads.{laid, HasSize, ReadFrom}
use Rattle.questions.proofs.Laying.{laid_more}

-- bytes of one chunk lie one after another
pub byte-run : (f : File) (here k : ℕ) → here % 2048 + k < 2048 → byte_in (f.part (here / 2048 + 1)) (here % 2048 + k) ≡ byte_at f (here + k)
byte-run f here k h =
    let q : here / 2048 + 1 ≡ (here + k) / 2048 + 1 = omega arith in
    let r : here % 2048 + k ≡ (here + k) % 2048 = omega arith in
    rw q (rw r refl)

-- a file has at most 2,048 bytes for each chunk of its length
last-most : (m : Option Record) → ((d : Record) → m ≡ Some d → length d.bytes ≡ 2048) → last_count (bytes_in m) ≤ 2048
last-most None h = omega arith
last-most (Some d) h = omega (arith, length-take d.tag.third d.bytes, h d refl)

module _ (rs : List Record) (whole : (r : Record) → Among r rs → Whole r) (o : ℕ) (f : File) (e : files rs o ≡ Some f) where
  pub size-up : (k : ℕ) → size_at f.part k ≤ k * 2048
  size-up zero = omega arith
  size-up (suc k) =
      let l : last_count (f.part (suc k)) ≤ 2048 = subst (λ (m : Option (List ℕ)). last_count m ≤ 2048) (sym ((file-at rs o f e).part' (suc k)))
      (last-most (chunk rs o (suc k)) (λ d c. (whole d (chunk-at rs o (suc k) d c).stands).bytes)) in
      omega arith

-- an object that has a size is a file of that size
sized-file : (m : Option File) (n : ℕ) → option_map size m ≡ Some n → (f : File) × (m ≡ Some f) × (n ≡ size f)
sized-file None n h = absurd cc
sized-file (Some f) n h = (f, refl, cc)

-- one chunk's part more
pub part-most : (cur : List ℕ) (at count most n : ℕ) → at ≤ count → n ≡ min (length (take (count - at) (drop at cur))) most → at + n ≤ count
part-most cur at count most n h e = omega (arith, length-take (count - at) (drop at cur))

pub read_more : (f : File) (bytes : Option (List ℕ)) (pos at n count : ℕ) (was cur part : List ℕ) → at ≤ count → count ≤ length was
    → n ≡ min (length (take (count - at) (drop at cur))) (2048 - (pos + at) % 2048) → bytes ≡ f.part ((pos + at) / 2048 + 1)
    → cur ≡ laid (byte_at f) pos at was → part ≡ laid (byte_in bytes) ((pos + at) % 2048) n (take (count - at) (drop at cur))
    → put_mid at (count - at) cur part ≡ laid (byte_at f) pos (at + n) was
read_more f bytes pos at n count was cur part h l e b u v =
    laid_more (byte_at f) (byte_in bytes) pos ((pos + at) % 2048) at n count was cur part h l (omega (arith, part-most cur at count (2048 - (pos + at) % 2048) n h e))
    (λ k x. ap (λ (m : Option (List ℕ)). byte_in m ((pos + at) % 2048 + k)) b ∙ byte-run f (pos + at) k (omega arith)) u v

-- the whole read
pub read_all : (s : State) (o n pos m : ℕ) (was is : List ℕ) → HasSize s o n → m ≡ min (length was) (n - pos)
    → (f : File) → files (standing (blocks_of s)) o ≡ Some f → is ≡ laid (byte_at f) pos m was → ReadFrom f pos was (Ok m) is
unfolding read_bytes
read_all s o n pos m was is h e f d u =
    let q = sized-file (files (standing (blocks_of s)) o) n h in
    let g : q.0 ≡ f = (let w : Some q.0 ≡ Some f = sym q.1 ∙ d in cc) in
    let c : m ≡ min (length was) (size f - pos) = e ∙ ap (λ (k : ℕ). min (length was) (k - pos)) (q.2 ∙ ap size g) in
    (c, u ∙ ap (λ (k : ℕ). laid (byte_at f) pos k was) c)
