use Rattle.std.proofs.Common.{sym}
use Rattle.store.specs.Stored.{stored}
use Rattle.store.proofs.stores.Store.check_open.Goals as goal

pub returns : goal.returns
returns g c = c.open.ensures (stored c.args.self.now) c.in_ok-known.ensures.runs (sym c.is_open.ensures)
