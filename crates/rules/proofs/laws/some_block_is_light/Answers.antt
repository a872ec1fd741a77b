use Rattle.rules.proofs.Room.{some-block-is-light}
use Rattle.rules.proofs.laws.some_block_is_light.Goals as goal

pub returns : goal.returns
returns c = some-block-is-light
