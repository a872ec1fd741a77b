-- What a search found stands in its place, whether a filter keeps it or not. Assumes nothing.
use Rattle.std.proofs.Common.{◌≡◌, Bool, true, false, List, Some, None, Option, MatchOption, sym, subst}
use Rattle.std.specs.Bool.{then_some}
use Rattle.flash.specs.declared.chunks.Look.{Look}
use Rattle.tags.specs.declared.finds.Found.{Found}
use Rattle.tags.specs.Finds.{InPlace}

pub kept-place : (looks : List Look) (m r : Option Found) (Says : Found → Bool → Type 0)
    → MatchOption m (r ≡ None) (λ f. (b : Bool) × Says f b × (r ≡ then_some b f)) → InPlace looks m → InPlace looks r
kept-place looks None r Says e h = subst (InPlace looks) (sym e) tt
kept-place looks (Some f) r Says (b, s, e) h = subst (InPlace looks) (sym e) (at b)
  where
    at : (b : Bool) → InPlace looks (then_some b f)
    at true = h
    at false = tt
