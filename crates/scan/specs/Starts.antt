-- A chip made ready: restarted, and its sizes. Assumes nothing.
use Rattle.std.specs.Prelude.{◌≡◌, true, false, Ok, Err, Result}
use Rattle.flash.specs.declared.chunks.Sizes.{Sizes}
use Rattle.flash.specs.Model.{State, started}
use Rattle.flash.specs.Reads.{Sized}
use Rattle.rules.specs.Mounting.{sizes_fit}
use Rattle.scan.specs.declared.refusals.Refusal.{Refusal}
use Rattle.scan.specs.declared.refusals.Refusal.TheVariants.{BadSizes}

-- the chip restarted, with sizes that a store takes, or with others
pub record Ready (s : State) (z : Sizes) (t : State) : Type 0 where
  pub chip : t ≡ started s
  pub sizes : Sized t z
  pub fit : sizes_fit z.blocks z.chunks ≡ true

pub record Unfit (s : State) (e : Refusal) (t : State) : Type 0 where
  pub chip : t ≡ started s
  pub unfit : sizes_fit s.n s.p ≡ false
  pub tells : e ≡ BadSizes

abbrev pub Started : State → Result Sizes Refusal → State → Type 0
Started s (Ok z) t = Ready s z t
Started s (Err e) t = Unfit s e t
