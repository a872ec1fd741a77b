use Rattle.std.proofs.Common.{All, List, ◌∙◌, subst, sym}
use Rattle.rules.specs.declared.rows.Row.{Row}
use Rattle.store.specs.Stored.{stored}
use Rattle.files.specs.Listing.{IsFile}
use Rattle.files.proofs.Listing.{rows_are_files}
use Rattle.demos.proofs.filing.all_lines.Goals as goal

pub some_lines-requires : goal.some_lines-requires
some_lines-requires c =
    let s = stored c.args.store.now in
    subst (λ (rs : List Row). All (IsFile s) rs) (sym (c.deref.ensures.value ∙ c.in_ok-rows.ensures.rows)) (rows_are_files s c.in_ok-rows.ensures.runs)
