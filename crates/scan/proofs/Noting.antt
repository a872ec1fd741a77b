-- Names noted on the way. Assumes nothing.
use Rattle.std.proofs.Common.{◌≡◌, ℕ, Bool, true, false, cond, ◌&&◌, eqb, List, [], ◌∷◌, get_or, Some, None, sym, refl, ap, ◌∙◌}
use Rattle.std.proofs.lemmas.Bool.{cond-true, cond-false}
use Rattle.flash.specs.declared.chunks.Look.{Look}
use Rattle.flash.specs.declared.chunks.Record.{Record}
use Rattle.flash.specs.declared.chunks.Tag.{Tag}
use Rattle.flash.specs.Model.{State}
use Rattle.rules.specs.Lists.{within}
use Rattle.rules.specs.Records.{kind, kind_by, is_header, object, first_byte}
use Rattle.tags.specs.Bare.{bare_tag}
use Rattle.names.specs.Names.{Entries, name_at, name_from}
use Rattle.scan.specs.Checks.{filed_by, FirstOf}
use Rattle.scan.specs.Tables.{HasData}
use Rattle.scan.proofs.Telling.{Recorded}

-- the name in a header's data noted, if the header with this tag is its file's
abbrev pub NotedIf : List Look → Tag → List ℕ → Entries → Entries → Type 0
NotedIf rows t bytes before after = (o : ℕ) → name_at after o ≡ cond (filed_by rows (bare_tag t) && (within 257 511 (object (bare_tag t)) && eqb o (object (bare_tag t)))) (name_from bytes) (name_at before o)

first-is : (xs : List ℕ) → get_or xs 0 0 ≡ first_byte xs
first-is [] = refl
first-is (x ∷ xs) = refl

-- what a record's tag tells of it
header-by : (r : Record) (t : Tag) → r.tag ≡ t → is_header (kind r) ≡ is_header (kind_by t.first)
unfolding kind
header-by r t e = ap (λ (z : Tag). is_header (kind_by z.first)) e

object-by : (r : Record) (t : Tag) → r.tag ≡ t → object r ≡ object (bare_tag t)
unfolding object kind
object-by r t e = ap (λ (z : Tag). object (bare_tag z)) e

module _ (s : State) (rows : List Look) (k : ℕ) (t : Tag) (before : Entries) (b : Bool) (kind-is : b ≡ is_header (kind_by t.first)) where
  pub header-first : (bytes : List ℕ) (after : Entries) → HasData s k t bytes → b ≡ true → NotedIf rows t bytes before after → FirstOf s rows k t before (Some (get_or bytes 0 0)) after
  header-first bytes after d h n =
      let hd : is_header (kind d.found) ≡ true = header-by d.found t d.tag ∙ sym kind-is ∙ h in
      let filed : filed_by rows d.found ≡ filed_by rows (bare_tag t) = ap (λ (z : Tag). filed_by rows (bare_tag z)) d.tag in
      record {
        found = d.found;
        here = d.here;
        tag = d.tag;
        first = ap Some (first-is bytes ∙ ap first_byte d.copied) ∙ sym (cond-true (is_header (kind d.found)) _ _ hd);
        named = λ o. rw (d.here, hd, filed, object-by d.found t d.tag, ← d.copied) (n o);
      }

  pub other-first : Recorded s k t → b ≡ false → FirstOf s rows k t before None before
  other-first r h =
      let hd : is_header (kind r.found) ≡ false = header-by r.found t r.tag ∙ sym kind-is ∙ h in
      record {
        found = r.found;
        here = r.here;
        tag = r.tag;
        first = sym (cond-false (is_header (kind r.found)) _ _ hd);
        named = λ o. rw (r.here, hd) refl;
      }
