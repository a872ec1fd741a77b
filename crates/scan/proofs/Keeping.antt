-- The rules of a record by its tag and the first byte of its data. Assumes nothing.
use Rattle.std.proofs.Common.{◌≡◌, ℕ, List, Bool, ◌&&◌, cond, Option, Some, None, sym, refl, ap, ◌∙◌}
use Rattle.std.specs.Option.{option_to_list}
use Rattle.flash.specs.declared.chunks.Record.{Record}
use Rattle.flash.specs.declared.chunks.Tag.{Tag}
use Rattle.rules.specs.declared.kinds.Kind.{Kind}
use Rattle.rules.specs.declared.kinds.Kind.TheVariants.{Data as data_k, Header as header_k, CutHeader as cut_k, Marker as marker_k, Other as other_k}
use Rattle.rules.specs.Lists.{within}
use Rattle.rules.specs.Records.{kind, kind_by, is_header, first_byte, rules_by, keeps_rules}
use Rattle.flash.specs.declared.chunks.Look.{Look}
use Rattle.flash.specs.declared.chunks.Chunk.TheVariants.{Holds}
use Rattle.flash.specs.Model.{State}
use Rattle.names.specs.Names.{Entries}
use Rattle.scan.specs.Checks.{first_if, FirstOf}
use Rattle.scan.specs.Tables.{row_of}

rules-same : (r : Record) (f : Option ℕ) (k : Kind) → f ≡ cond (is_header k) (Some (first_byte r.bytes)) None → rules_by (record { tag = r.tag; bytes = option_to_list f }) k ≡ rules_by r k
rules-same r f data_k e = refl
rules-same r f header_k e = ap (λ (x : Option ℕ). rules_by (record { tag = r.tag; bytes = option_to_list x }) header_k) e
rules-same r f cut_k e = ap (λ (x : Option ℕ). rules_by (record { tag = r.tag; bytes = option_to_list x }) cut_k) e
rules-same r f marker_k e = refl
rules-same r f other_k e = refl

-- the first byte is all that counts of the data
keeps_same : (r : Record) (t : Tag) (f : Option ℕ) → r.tag ≡ t → f ≡ first_if r → keeps_rules (record { tag = t; bytes = option_to_list f }) ≡ keeps_rules r
unfolding keeps_rules kind
keeps_same r t f g e = rw (← g) (ap (λ (x : Bool). within 1 4294967295 r.tag.serial && x) (rules-same r f (kind_by r.tag.first) e))

pub kept : {s : State} {rows : List Look} {k : ℕ} {t : Tag} {before : Entries} {v : Option ℕ} {after : Entries} (f : FirstOf s rows k t before v after) (b : Bool) → b ≡ keeps_rules (record { tag = t; bytes = option_to_list v })
    → (r : Record) → row_of s k ≡ Holds r → keeps_rules r ≡ b
kept {t = t} {v = v} f b e r p =
    let q : r ≡ f.found = cc in ap keeps_rules q ∙ sym (e ∙ keeps_same f.found t v f.tag f.first)
