use Rattle.std.proofs.Common.{All, List, ◌∙◌, subst, sym}
use Rattle.rules.specs.declared.rows.Row.{Row}
use Rattle.store.specs.Stored.{stored}
use Rattle.files.specs.Listing.{IsFile}
use Rattle.files.proofs.Listing.{rows_are_files}
use Rattle.files.proofs.ls.ls.Goals as goal

-- src/ls.rt:116:5
pub file_lines-requires : goal.file_lines-requires
file_lines-requires c =
    let s = stored c.in_ok-store.store in
    subst (λ (rs : List Row). All (IsFile s) rs) (sym (c.deref.ensures.value ∙ c.in_ok-rows_of.ensures.rows)) (rows_are_files s c.in_ok-store.ensures.running)
