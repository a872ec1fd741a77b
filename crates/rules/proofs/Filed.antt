-- The records that are in a file, and the parts of the files that they are. Assumes nothing.
use Rattle.std.proofs.Common.{◌≡◌, ℕ, max, true, false, ◌⊎◌, List, Some, None, Option, refl, arith}
use Rattle.flash.specs.declared.chunks.Record.{Record}
use Rattle.rules.specs.Lists.{Among, is_there}
use Rattle.rules.specs.Records.{kind, object, is_data, is_header}
use Rattle.rules.specs.Reading.{header, chunk, hidden, topped, replaced, present, in_file, files, highest_chunk, bytes_in, name_in, File}
use Rattle.rules.specs.Laws.{Unique}
use Rattle.rules.specs.declared.kinds.Kind.{Kind}
use Rattle.rules.proofs.Lists.{newest-found}
use Rattle.rules.proofs.Views.{DataOf, head-view, head-from, data-view, data-from, topped-from, topped-view, replaced-from, replaced-view}

pub some_is : {A : Type 0} (x y : A) → Some x ≡ Some y → x ≡ y
some_is x y e = cc

pub some-none : {A : Type 0} (x : A) → Some x ≡ None → ⊥
some-none x e = cc

pub there-some : {A : Type 0} (m : Option A) → is_there m ≡ true → (x : A) × (m ≡ Some x)
there-some k e = grind arith

-- a record in a file is a header or a data record
pub record HeaderIn (rs : List Record) (r : Record) : Type 0 where
  pub isheader : is_header (kind r) ≡ true
  pub top : topped rs r ≡ false

pub record DataIn (rs : List Record) (r : Record) : Type 0 where
  pub isdata : is_data (kind r) ≡ true
  pub there : present rs (object r) ≡ true
  pub bare : hidden rs r ≡ false
  pub last : replaced rs r ≡ false

module _ (rs : List Record) (r : Record) where
  in-view : in_file rs r ≡ true → (k : Kind) → kind r ≡ k → HeaderIn rs r ⊎ DataIn rs r
  unfolding in_file
  in-view e k p = grind arith

  pub filed-view : in_file rs r ≡ true → HeaderIn rs r ⊎ DataIn rs r
  filed-view e = in-view e (kind r) refl

  pub header-filed : HeaderIn rs r → in_file rs r ≡ true
  unfolding in_file
  header-filed v = grind arith

  pub data-filed : DataIn rs r → in_file rs r ≡ true
  unfolding in_file
  data-filed v = grind arith

module _ (rs : List Record) (u : Unique rs) (r : Record) (here : Among r rs) where
  pub header_of : HeaderIn rs r → header rs (object r) ≡ Some r
  unfolding header
  header_of v = grind (arith, newest-found, head-from, topped-from, head-view)

  pub chunk_of : DataIn rs r → chunk rs (object r) r.tag.first ≡ Some r
  unfolding chunk
  chunk_of v = grind (arith, newest-found, data-from, replaced-from, data-view)

-- the header of a file
pub record HeaderAt (rs : List Record) (o : ℕ) (h : Record) : Type 0 where
  pub stands : Among h rs
  pub of : object h ≡ o
  pub filed : HeaderIn rs h

pub header_at : (rs : List Record) (o : ℕ) (h : Record) → header rs o ≡ Some h → HeaderAt rs o h
unfolding header
header_at rs o h e = grind (arith, newest-found, some_is, head-view, topped-view, head-from)

-- the record of a chunk
pub record ChunkAt (rs : List Record) (o j : ℕ) (d : Record) : Type 0 where
  pub stands : Among d rs
  pub data' : DataOf o j d
  pub bare : hidden rs d ≡ false
  pub last : replaced rs d ≡ false

pub chunk-at : (rs : List Record) (o j : ℕ) (d : Record) → chunk rs o j ≡ Some d → ChunkAt rs o j d
unfolding chunk
chunk-at rs o j d e = grind (arith, newest-found, some-none, data-view, replaced-view, data-from)

-- a file, and its header
pub record FileAt (rs : List Record) (o : ℕ) (f : File) : Type 0 where
  pub head : Record
  pub header' : header rs o ≡ Some head
  pub name' : f.name ≡ name_in head.bytes
  pub part' : (j : ℕ) → f.part j ≡ bytes_in (chunk rs o j)
  pub long' : f.long ≡ max head.tag.third (highest_chunk rs o)

pub file-at : (rs : List Record) (o : ℕ) (f : File) → files rs o ≡ Some f → FileAt rs o f
unfolding files
file-at rs o f e = grind arith

pub present-file : (rs : List Record) (o : ℕ) → present rs o ≡ is_there (files rs o)
unfolding present files
present-file rs o = grind arith

pub bytes-there : (m : Option Record) → is_there (bytes_in m) ≡ is_there m
bytes-there k = grind arith
