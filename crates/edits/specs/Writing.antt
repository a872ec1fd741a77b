-- An open file filled and trimmed. Assumes nothing.
use Rattle.std.specs.Prelude.{◌≡◌, ◌≢◌, ℕ, ◌+◌, ◌*◌, ◌≤◌, max, min, cond, List, Some, None, Option, Ok, Err, Result, nat_le}
use Rattle.cleaning.specs.declared.adds.Counts.{Counts}
use Rattle.rules.specs.Lists.{within}
use Rattle.rules.specs.Reading.{File, files}
use Rattle.rules.specs.Refusals.{Store, recs}
use Rattle.rules.specs.Right.{changed}
use Rattle.scan.specs.declared.refusals.Refusal.{Refusal}
use Rattle.scan.specs.Refusals.{told}
use Rattle.edits.specs.Puts.{chunks_in, chunk_of, file_with, Unspent, Unwritten}
use Rattle.edits.specs.Creating.{Turned}

-- 25 is no refusal here
abbrev pub Spares : Refusal → Result Counts Refusal → Type 0
Spares e (Ok c) = ((told e).0 ≡ 25) × (c ≡ record { programs = 0; erases = 0 })
Spares e (Err x) = ((told e).0 ≢ 25) × (x ≡ e)

-- no longer than n; the chunks above n are gone
abbrev pub trimmed : ℕ → Option File → Option File
trimmed n None = None
trimmed n (Some f) = Some (record { name = f.name; long = min f.long n; part = λ j. cond (nat_le j n) (f.part j) None })

abbrev pub Trims : Store → ℕ → ℕ → Result Counts Refusal → Store → Type 0
Trims s o n (Ok c) t = Turned s (changed (files (recs s)) o (trimmed n)) t × (t.opened ≡ s.opened) × (c.programs ≤ s.p) × (c.erases ≤ 2)
Trims s o n (Err e) t = Unspent e × (t.opened ≡ s.opened)

-- chunks 1 to k are those of the content; the file is k chunks long at least
abbrev pub with_chunks : List ℕ → ℕ → Option File → Option File
with_chunks content k None = None
with_chunks content k (Some f) = Some (record { name = f.name; long = max f.long k; part = λ j. cond (within 1 k j) (Some (chunk_of content j)) (f.part j) })

pub record Filled (s : Store) (o : ℕ) (content : List ℕ) (n : ℕ) (c : Counts) (t : Store) : Type 0 where
  pub turned : Turned s (changed (files (recs s)) o (with_chunks content n)) t
  pub opened' : t.opened ≡ s.opened
  pub few : n ≤ 1000
  pub least : n ≤ c.programs
  pub most : c.programs ≤ n * s.p
  pub erases : c.erases ≤ n * 2

abbrev pub Fills : Store → ℕ → List ℕ → Result (ℕ × Counts) Refusal → Store → Type 0
Fills s o content (Ok (n, c)) t = Filled s o content n c t × (n ≡ chunks_in content)
Fills s o content (Err e) t = Unwritten content e × (t.opened ≡ s.opened)

-- the file has the bytes and no others
abbrev pub with_content : List ℕ → Option File → Option File
with_content content None = None
with_content content (Some f) = Some (file_with f.name content)

pub record Written (s : Store) (o : ℕ) (content : List ℕ) (c : Counts) (t : Store) : Type 0 where
  pub turned : Turned s (changed (files (recs s)) o (with_content content)) t
  pub few : chunks_in content ≤ 1000
  pub least : chunks_in content ≤ c.programs
  pub most : c.programs ≤ (chunks_in content + 1) * s.p
  pub erases : c.erases ≤ (chunks_in content + 1) * 2

abbrev pub Refills : Store → ℕ → List ℕ → Result Counts Refusal → Store → Type 0
Refills s o content (Ok c) t = Written s o content c t × (t.opened ≡ s.opened)
Refills s o content (Err e) t = Unwritten content e × (t.opened ≡ s.opened)

abbrev pub Writes : Store → ℕ → List ℕ → Result Counts Refusal → Store → Type 0
Writes s o content (Ok c) t = Written s o content c t
Writes s o content (Err e) t = Unwritten content e
