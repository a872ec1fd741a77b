-- The bytes of an image after a change. Assumes nothing.
use Rattle.std.specs.Prelude.{◌≡◌, ℕ, ◌+◌, ◌/◌, ◌%◌, ◌<◌, ◌≢◌, List, [], ◌∷◌, ◌++◌, length, take, drop, slice_index}
use Rattle.flash.specs.declared.chunks.Record.{Record}
use Rattle.image.specs.Format.{start_of}

-- a number of 32 bits in four bytes, the lowest first
abbrev pub four_bytes : ℕ → List ℕ
four_bytes n = n % 256 ∷ n / 256 % 256 ∷ n / 65536 % 256 ∷ n / 16777216 % 256 ∷ []

-- the 2,065 bytes of a chunk that holds a record: state 1, the four numbers and the data
abbrev pub code_of : Record → List ℕ
code_of r = 1 ∷ (four_bytes r.tag.first ++ (four_bytes r.tag.second ++ (four_bytes r.tag.third ++ (four_bytes r.tag.serial ++ r.bytes))))

-- a record in the chunk that begins at `start`; the bytes before and after that chunk are as they were
abbrev pub programmed : List ℕ → ℕ → Record → List ℕ
programmed xs start r = take start xs ++ (code_of r ++ drop (start + 2065) xs)

-- the state bytes of the first n chunks of block b, of p chunks, are 255; every other byte is as it was
pub record Cleared (xs : List ℕ) (p b n : ℕ) (ys : List ℕ) : Type 0 where
  pub long : length ys ≡ length xs
  pub here : (c : ℕ) → c < n → slice_index ys (start_of p b c) ≡ 255
  pub there : (i : ℕ) → ((c : ℕ) → c < n → i ≢ start_of p b c) → slice_index ys i ≡ slice_index xs i
