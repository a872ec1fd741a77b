-- A chip of either kind, and how it is made. Assumes nothing.
use Rattle.std.specs.Prelude.{◌≡◌, ℕ, ◌+◌, ◌*◌, Bool, Some, None, Option, Ok, Err, List, IfOk, vec_items, Vec, Result, slice_set}
use Rattle.std.specs.declared.alloc.Global.{Global}
use Rattle.std.specs.declared.alloc.AllocError.{AllocError}
use Rattle.flash.specs.declared.chunks.Chunk.{Chunk}
use Rattle.flash.specs.declared.chunks.Place.{Place}
use Rattle.flash.specs.declared.chunks.Sizes.{Sizes}
use Rattle.flash.specs.declared.faults.Misfit.{Misfit}
use Rattle.flash.specs.Model.{State, started}
use Rattle.bench.specs.declared.plans.Plan.{Plan}
use Rattle.bench.specs.Benches.{cell_at, state_of as bench_state}
use Rattle.image.specs.declared.images.ImageChip.{ImageChip}
use Rattle.image.specs.Blanks.{BlankChip}
use Rattle.image.specs.Leaves.{Made, state_of as image_state}
use Rattle.replays.specs.declared.benches.Bench.{Bench as Held}
use Rattle.replays.specs.declared.devices.Device.{Device}
use Rattle.replays.specs.declared.devices.Device.TheVariants.{Bench, Image}

-- the chip that it is
abbrev pub device_state : Device → State
device_state (Bench d) = bench_state d.chip
device_state (Image c) = image_state c

-- the chip of these rows, with this power
abbrev pub row_state : List Chunk → Sizes → Bool → State
row_state rows z on = record { n = z.blocks; p = z.chunks; on = on; cells = cell_at rows z.chunks }

-- a bench chip of these rows with this plan
abbrev pub BenchOf : List Chunk → Sizes → Plan → Bool → Held → Type 0
BenchOf rows z q on d = (bench_state d.chip ≡ row_state rows z on) × (d.plan ≡ q)

-- another plan
abbrev pub Planned : Held → Plan → Held → Type 0
Planned d q e = (bench_state e.chip ≡ bench_state d.chip) × (e.plan ≡ q)

-- this in the row of a place
abbrev pub RowSet : Held → Place → Chunk → Held → Type 0
RowSet d q v e = (bench_state e.chip ≡ row_state (slice_set (vec_items d.chip.rows) (q.block * d.chip.sizes.chunks + q.chunk) v) d.chip.sizes d.chip.on) × (e.plan ≡ d.plan)

-- the same, and where memory sufficed a copy that is on
abbrev pub BenchTwins : Held → Held × Result Held AllocError → Type 0
BenchTwins d (e, r) = (bench_state e.chip ≡ bench_state d.chip) × (e.plan ≡ d.plan) × IfOk r (λ t. bench_state t.chip ≡ started (bench_state d.chip))

abbrev pub ImageTwins : ImageChip → ImageChip × Result ImageChip AllocError → Type 0
ImageTwins c (e, r) = (image_state e ≡ image_state c) × IfOk r (λ t. image_state t ≡ started (image_state c))

-- the same chip, and the same plan
abbrev pub Same : Device → Device → Type 0
Same (Bench d) (Bench e) = (bench_state e.chip ≡ bench_state d.chip) × (e.plan ≡ d.plan)
Same (Bench d) (Image c) = ⊥
Same (Image c) (Bench d) = ⊥
Same (Image c) (Image e) = image_state e ≡ image_state c

abbrev pub Twins : Device → Device × Result Device AllocError → Type 0
Twins d (e, r) = Same d e × IfOk r (λ t. device_state t ≡ started (device_state d))

-- a blank bench chip, off
abbrev pub BlankBench : Sizes → Plan → Device → Type 0
BlankBench z q (Bench d) = BlankChip z.blocks z.chunks (bench_state d.chip) × (d.plan ≡ q)
BlankBench z q (Image c) = ⊥

-- a chip of these bytes, and what is wrong with them
abbrev pub ImageMade : Vec ℕ Global → ImageChip × Option Misfit → Type 0
ImageMade v (c, None) = Made v (Ok c)
ImageMade v (c, Some w) = Made v (Err (record { chip = c; why = w }))
