use Rattle.std.proofs.Common.{inr}
use Rattle.replays.proofs.machines.Machine.image.Goals as goal

pub returns-in-Some : goal.returns-in-Some
returns-in-Some g c = inr (c.in-Some.bytes, c.set_image.ensures)
