-- What a machine is, and what its calls of a chip and of a store leave. Assumes nothing.
use Rattle.std.specs.Prelude.{◌≡◌, ℕ, ◌<◌, ◌≤◌, Bool, false, ◌⊎◌, ◌&&◌, [], length, Some, None, Option, Ok, Err, Result, IfOk, MatchBool, vec_items, Vec, nat_lt, string_bytes}
use Rattle.std.specs.declared.alloc.Global.{Global}
use Rattle.std.specs.declared.alloc.AllocError.{AllocError}
use Rattle.flash.specs.declared.chunks.Chunk.{Chunk}
use Rattle.flash.specs.declared.chunks.Chunk.TheVariants.{Blank as BlankChunk, Damaged as DamagedChunk, Holds as HoldsRecord}
use Rattle.flash.specs.declared.chunks.Place.{Place}
use Rattle.flash.specs.declared.chunks.Sizes.{Sizes}
use Rattle.flash.specs.declared.faults.Fault.TheVariants.{NoSuchPlace}
use Rattle.flash.specs.Model.{View, view_of, started}
use Rattle.bench.specs.declared.plans.Plan.{Plan}
use Rattle.image.specs.Leaves.{Made}
use Rattle.rules.specs.Calls.{padded}
use Rattle.scan.specs.declared.refusals.Refusal.TheVariants.{Chip as OfChip}
use Rattle.lines.specs.Chunks.{chip_lines}
use Rattle.scripts.specs.Bytes.{bytes_in}
use Rattle.scripts.specs.declared.lines.Content.{Content}
use Rattle.scripts.specs.declared.lines.Content.TheVariants.{Blank, Damaged, Holds}
use Rattle.scripts.specs.declared.lines.Setup.{Setup}
use Rattle.scripts.specs.declared.lines.Setup.TheVariants as s
use Rattle.scripts.specs.declared.lines.Line.{Line}
use Rattle.scripts.specs.declared.lines.Line.TheVariants as li
use Rattle.replays.specs.declared.benches.Bench.{Bench as Held}
use Rattle.replays.specs.declared.plays.Twin.{Twin}
use Rattle.replays.specs.declared.devices.Device.TheVariants.{Bench, Image}
use Rattle.store.specs.Stored.{stored}
use Rattle.store.specs.Stores.{NoneHeld}
use Rattle.scripts.specs.declared.lines.ChipCall.{ChipCall}
use Rattle.scripts.specs.declared.lines.Change.{Change as ChangeCall}
use Rattle.scripts.specs.declared.lines.Ask.{Ask as Question}
use Rattle.scripts.specs.declared.lines.Life.{Life as LifeCall}
use Rattle.scripts.specs.declared.lines.Life.TheVariants.{Attach, Release, Format, Mount, Collect}
use Rattle.replays.specs.declared.devices.Device.{Device}
use Rattle.replays.specs.declared.machines.Stored.{Stored as Kept}
use Rattle.replays.specs.declared.machines.Machine.{Machine}
use Rattle.replays.specs.declared.machines.Machine.TheVariants.{Empty, Chip, Stored}
use Rattle.replays.specs.declared.answers.Misuse.TheVariants.{NoChip, NoStore, NoBench, NoFile, NoImage, TooLong}
use Rattle.replays.specs.declared.answers.Answer.{Answer}
use Rattle.replays.specs.declared.answers.Answer.TheVariants.{Done, Chunks, Refused, Unmade, Misuse}
use Rattle.replays.specs.Devices.{device_state, Same, Planned, RowSet, BlankBench}
use Rattle.replays.specs.Calls.{ChipAnswered, ChangeAnswered, AskAnswered, FormatTold, MountTold, CollectTold}

-- a chip as the rules have it, as a list of blocks
abbrev pub seen : Device → View
seen d = view_of (device_state d)

-- the chip is taken out, if it is in no store
abbrev pub ChipTaken : Machine → Option Device → Machine → Type 0
ChipTaken (Chip d) (Some e) m = (e ≡ d) × (m ≡ Empty)
ChipTaken (Chip d) None m = ⊥
ChipTaken Empty (Some e) m = ⊥
ChipTaken Empty None m = m ≡ Empty
ChipTaken (Stored x) (Some e) m = ⊥
ChipTaken (Stored x) None m = m ≡ Stored x

-- there is no chip or no store to call, and nothing has changed
abbrev pub WithoutChip : Machine → Answer → Machine → Type 0
WithoutChip m a l = (a ≡ Misuse NoChip) × (l ≡ m)

abbrev pub WithoutStore : Machine → Answer → Machine → Type 0
WithoutStore m a l = (a ≡ Misuse NoStore) × (l ≡ m)

-- a call of the chip, which is in no store
abbrev pub ChipLine : Machine → ChipCall → Answer → Machine → Type 0
ChipLine Empty k a m = WithoutChip Empty a m
ChipLine (Stored x) k a m = WithoutChip (Stored x) a m
ChipLine (Chip d) k a (Chip e) = ChipAnswered (device_state d) k a (device_state e)
ChipLine (Chip d) k a Empty = ⊥
ChipLine (Chip d) k a (Stored y) = ⊥

-- a call of the store, which P speaks of
abbrev pub StoreLine : (Kept → Answer → Kept → Type 0) → Machine → Answer → Machine → Type 0
StoreLine P Empty a m = WithoutStore Empty a m
StoreLine P (Chip d) a m = WithoutStore (Chip d) a m
StoreLine P (Stored x) a (Stored y) = P x a y
StoreLine P (Stored x) a Empty = ⊥
StoreLine P (Stored x) a (Chip d) = ⊥

abbrev pub ChangeLine : Machine → ChangeCall → Answer → Machine → Type 0
ChangeLine m c a l = StoreLine (λ x b y. ChangeAnswered (vec_items x.tickets) (stored x.store) c b (stored y.store)) m a l

abbrev pub AskLine : Machine → Question → Answer → Machine → Type 0
AskLine m q a l = StoreLine (λ x b y. AskAnswered (stored x.store) q b × (y ≡ x)) m a l

-- a store is begun on the chip, stopped and with no file open
abbrev pub AttachLine : Machine → Answer → Machine → Type 0
AttachLine Empty a m = WithoutChip Empty a m
AttachLine (Stored x) a m = WithoutChip (Stored x) a m
AttachLine (Chip d) a (Stored y) = (a ≡ Done) × (y.store.chip ≡ d) × (y.store.running ≡ false) × NoneHeld y.store.held × (vec_items y.tickets ≡ [])
AttachLine (Chip d) a Empty = ⊥
AttachLine (Chip d) a (Chip e) = ⊥

-- the store is ended, and its chip is there again
abbrev pub ReleaseLine : Machine → Answer → Machine → Type 0
ReleaseLine Empty a m = WithoutStore Empty a m
ReleaseLine (Chip d) a m = WithoutStore (Chip d) a m
ReleaseLine (Stored x) a (Chip e) = (a ≡ Done) × (seen e ≡ seen x.store.chip)
ReleaseLine (Stored x) a Empty = ⊥
ReleaseLine (Stored x) a (Stored y) = ⊥

abbrev pub LifeLine : Machine → LifeCall → Answer → Machine → Type 0
LifeLine m Attach a l = AttachLine m a l
LifeLine m Release a l = ReleaseLine m a l
LifeLine m Format a l = StoreLine (λ x b y. FormatTold (device_state x.store.chip) b (device_state y.store.chip)) m a l
LifeLine m Mount a l = StoreLine (λ x b y. MountTold (device_state x.store.chip) b (device_state y.store.chip)) m a l
LifeLine m Collect a l = StoreLine (λ x b y. CollectTold (stored x.store) b (stored y.store)) m a l

-- an image chip of these bytes
abbrev pub ImageSet : Vec ℕ Global → Answer → Machine → Type 0
ImageSet v Done (Chip (Image c)) = Made v (Ok c)
ImageSet v (Unmade w) (Chip (Image c)) = Made v (Err (record { chip = c; why = w }))
ImageSet v _ _ = ⊥

-- of what a file holds, if it can be read
abbrev pub ImageLine : Machine → Answer → Machine → Type 0
ImageLine m a l = ((a ≡ Misuse NoFile) × (l ≡ m)) ⊎ ((v : Vec ℕ Global) × ImageSet v a l)

-- the same machine, with the same chip
abbrev pub SameMachine : Machine → Machine → Type 0
SameMachine Empty l = l ≡ Empty
SameMachine (Stored x) l = l ≡ Stored x
SameMachine (Chip d) (Chip e) = Same d e
SameMachine (Chip d) Empty = ⊥
SameMachine (Chip d) (Stored y) = ⊥

-- a copy of the chip, if it is in no store
abbrev pub TwinOf : Machine → Option Twin → Type 0
TwinOf Empty None = Unit {0}
TwinOf Empty (Some t) = ⊥
TwinOf (Stored x) None = Unit {0}
TwinOf (Stored x) (Some t) = ⊥
TwinOf (Chip d) None = ⊥
TwinOf (Chip d) (Some t) = (device_state t.device ≡ started (device_state d)) × (t.on ≡ (device_state d).on)

abbrev pub TwinTaken : Machine → Result (Option Twin) AllocError → Machine → Type 0
TwinTaken m r l = SameMachine m l × IfOk r (TwinOf m)

-- the lines of all chunks, as of a chip that is on
abbrev pub DumpTold : Machine → Answer → Type 0
DumpTold Empty a = a ≡ Misuse NoChip
DumpTold (Stored x) a = a ≡ Misuse NoChip
DumpTold (Chip d) (Chunks s) = string_bytes s ≡ chip_lines (started (device_state d)) (device_state d).n
DumpTold (Chip d) _ = ⊥

abbrev pub DumpLine : Machine → Answer → Machine → Type 0
DumpLine m a l = SameMachine m l × DumpTold m a

-- nothing is told of files
abbrev pub SaveTold : Machine → Answer → Type 0
SaveTold Empty a = a ≡ Misuse NoChip
SaveTold (Stored x) a = a ≡ Misuse NoChip
SaveTold (Chip d) a = (a ≡ Done) ⊎ ((a ≡ Misuse NoFile) ⊎ ((a ≡ Misuse NoImage) × ((255 < (device_state d).n) ⊎ (255 < (device_state d).p))))

abbrev pub SaveLine : Machine → Answer → Machine → Type 0
SaveLine m a l = SameMachine m l × SaveTold m a

-- the bench chip is taken out, if there is one and it is in no store
abbrev pub BenchTaken : Machine → Option Held → Machine → Type 0
BenchTaken (Chip (Bench d)) r l = (r ≡ Some d) × (l ≡ Empty)
BenchTaken (Chip (Image c)) r l = (r ≡ None) × (l ≡ Chip (Image c))
BenchTaken Empty r l = (r ≡ None) × (l ≡ Empty)
BenchTaken (Stored x) r l = (r ≡ None) × (l ≡ Stored x)

-- a line for the bench chip, which P speaks of
abbrev pub OfBench : (Held → Answer → Machine → Type 0) → Machine → Answer → Machine → Type 0
OfBench P (Chip (Bench d)) a l = P d a l
OfBench P (Chip (Image c)) a l = (a ≡ Misuse NoBench) × (l ≡ Chip (Image c))
OfBench P Empty a l = (a ≡ Misuse NoBench) × (l ≡ Empty)
OfBench P (Stored x) a l = (a ≡ Misuse NoBench) × (l ≡ Stored x)

-- the machine has a bench chip, of which P holds
abbrev pub HasBench : (Held → Type 0) → Machine → Type 0
HasBench P (Chip (Bench e)) = P e
HasBench P (Chip (Image c)) = ⊥
HasBench P Empty = ⊥
HasBench P (Stored x) = ⊥

abbrev pub there_is : Held → Place → Bool
there_is d q = nat_lt q.block d.chip.sizes.blocks && nat_lt q.chunk d.chip.sizes.chunks

abbrev pub ChunkLine : Machine → Place → Chunk → Answer → Machine → Type 0
ChunkLine m q v a l = OfBench (λ d b k. MatchBool (there_is d q) ((b ≡ Done) × HasBench (RowSet d q v) k) ((b ≡ Refused (OfChip NoSuchPlace)) × (k ≡ Chip (Bench d)))) m a l

abbrev pub ContentLine : Machine → Place → Content → Answer → Machine → Type 0
ContentLine m q Blank a l = ChunkLine m q BlankChunk a l
ContentLine m q Damaged a l = ChunkLine m q DamagedChunk a l
ContentLine m q (Holds t d) a l = ((2048 < length (bytes_in d)) × (a ≡ Misuse TooLong) × (l ≡ m))
    ⊎ ((length (bytes_in d) ≤ 2048) × ChunkLine m q (HoldsRecord (record { tag = t; bytes = padded 2048 (bytes_in d) })) a l)

abbrev pub PlanLine : Machine → Plan → Answer → Machine → Type 0
PlanLine m p a l = OfBench (λ d b k. (b ≡ Done) × HasBench (Planned d p) k) m a l

abbrev pub BenchLine : Sizes → Plan → Answer → Machine → Type 0
BenchLine z p a (Chip d) = (a ≡ Done) × BlankBench z p d
BenchLine z p a Empty = ⊥
BenchLine z p a (Stored x) = ⊥

abbrev pub SetupLine : Machine → Setup → Answer → Machine → Type 0
SetupLine m (s.Bench z p) a l = BenchLine z p a l
SetupLine m (s.Plan p) a l = PlanLine m p a l
SetupLine m (s.Image w) a l = ImageLine m a l
SetupLine m (s.Chunk q v) a l = ContentLine m q v a l
SetupLine m s.Dump a l = DumpLine m a l
SetupLine m (s.Save w) a l = SaveLine m a l

-- what a line is answered, and what it leaves
abbrev pub LineAnswered : Machine → Line → Answer → Machine → Type 0
LineAnswered m (li.Setup x) a l = SetupLine m x a l
LineAnswered m (li.Chip k) a l = ChipLine m k a l
LineAnswered m (li.Life x) a l = LifeLine m x a l
LineAnswered m (li.Change c) a l = ChangeLine m c a l
LineAnswered m (li.Ask q) a l = AskLine m q a l
