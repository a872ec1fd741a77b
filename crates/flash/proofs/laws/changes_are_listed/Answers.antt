use Rattle.flash.proofs.Views.{cell_at, put_view, erase-view, fail-view}
use Rattle.flash.proofs.laws.changes_are_listed.Goals as goal

pub returns : goal.returns
returns c = record { each = cell_at; put = put_view; erase = erase-view; fail = fail-view }
