use Rattle.store.specs.Stored.{stored}
use Rattle.store.proofs.Collects.{seen_tells}
use Rattle.store.proofs.stores.Store.check_collect.Goals as goal

pub returns : goal.returns
returns g c =
    let old = c.args.self.now in
    let k = c.in_ok-known.ensures in
    c.collect.ensures (stored old) k.runs (seen_tells _ old.index _ old.running old.held (old.present k.known.0) k.known)
