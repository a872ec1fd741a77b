-- What a note makes of an index. Only private functions cite this. Assumes nothing.
use Rattle.std.specs.Prelude.{◌≡◌, ℕ, ◌+◌, ◌*◌, ◌++◌, take, drop, replicate, vec_items, ◌==◌, slice_index_or, slice_set}
use Rattle.flash.specs.declared.chunks.Look.TheVariants.{Blank, Record as record_l}
use Rattle.flash.specs.declared.chunks.Place.{Place}
use Rattle.flash.specs.declared.chunks.Tag.{Tag}
use Rattle.rules.specs.declared.standings.Event.TheVariants.{Opened, Erased}
use Rattle.rules.specs.declared.standings.Standing.TheVariants.{Closed as closed_s}
use Rattle.rules.specs.Laws.{filled_if}
use Rattle.rules.specs.Places.{moved}
use Rattle.scan.specs.declared.indexes.Index.{Index}
use Rattle.scan.specs.Indexes.{names_in}

-- the row of the place tells of a record with these four numbers, and its block moved on as it took one
pub record ProgramNoted (x : Index) (q : Place) (g : Tag) (y : Index) : Type 0 where
  pub same_sizes : y.sizes ≡ x.sizes
  pub same_names : names_in y ≡ names_in x
  pub rows : vec_items y.rows ≡ slice_set (vec_items x.rows) (q.block * x.sizes.chunks + q.chunk) (record_l g)
  pub stands : vec_items y.standings ≡ slice_set (vec_items x.standings) q.block (filled_if (q.chunk + 1 == x.sizes.chunks) (moved Opened (slice_index_or (vec_items x.standings) q.block closed_s)))

-- the rows of the block are blank, and it moved on as it was erased
pub record EraseNoted (x : Index) (b : ℕ) (y : Index) : Type 0 where
  pub same_sizes : y.sizes ≡ x.sizes
  pub same_names : names_in y ≡ names_in x
  pub rows : vec_items y.rows ≡ take (b * x.sizes.chunks) (vec_items x.rows) ++ (replicate x.sizes.chunks Blank ++ drop (b * x.sizes.chunks + x.sizes.chunks) (vec_items x.rows))
  pub stands : vec_items y.standings ≡ slice_set (vec_items x.standings) b (moved Erased (slice_index_or (vec_items x.standings) b closed_s))
