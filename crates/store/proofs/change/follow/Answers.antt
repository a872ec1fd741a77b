use Rattle.store.proofs.Checked.{named_by_create, named_by_rename}
use Rattle.store.proofs.change.follow.Goals as goal

pub returns-in-Create : goal.returns-in-Create
returns-in-Create c = λ st. rw (c.in-Create.is) (named_by_create st c.in-Create.object c.in-Create.name.now _ _ c.put.ensures)

pub returns-in-Rename : goal.returns-in-Rename
returns-in-Rename c = λ st. rw (c.in-Rename.is) (named_by_rename st c.in-Rename.object c.in-Rename.name.now _ _ c.put-in-Rename.ensures)
