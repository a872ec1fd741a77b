use Rattle.std.proofs.Common.{◌≡◌, ℕ, List, Ok, Err, Result}
use Rattle.std.specs.Result.{result_map_both}
use Rattle.flash.specs.declared.chunks.Look.{Look}
use Rattle.flash.specs.declared.chunks.Place.{Place}
use Rattle.flash.specs.declared.chunks.Sizes.{Sizes}
use Rattle.flash.specs.declared.chunks.Tag.{Tag}
use Rattle.flash.specs.declared.faults.Fault.{Fault}
use Rattle.flash.specs.Model.{State}
use Rattle.flash.specs.Reads.{Fetched}
use Rattle.scan.specs.Tables.{TableOf, PlaceOf, DataOf}
use Rattle.scan.proofs.Telling.{Recorded, recorded, fetched}
use Rattle.scan.proofs.tables.Entry.read.Goals as goal

-- a fetch of a record that is there
reads : {s : State} {z : Sizes} {rows : List Look} (k : ℕ) {t : Tag} (q : Place) (old new : List ℕ) → TableOf s z rows → Recorded s k t → PlaceOf s k q
    → (a : Result (Unit {0}) Fault) → Fetched s q old a new → DataOf s k t (result_map_both (λ _. new) (λ f. f) a)
reads k q old new h r p (Ok u) d = (let e : r.found ≡ d.found = cc in record { found = r.found; here = r.here; tag = r.tag; copied = cc })
reads k q old new h r p (Err f) d = absurd (fetched h k q r.found f p r.here d.0)

pub returns : goal.returns
returns g c =
    let e = c.args.self.now in
    reads e.row c.place.result c.args.data.now c.fetch.new.buffer e.scan.now.table (recorded e.told) c.place.ensures c.fetch.result c.fetch.ensures
