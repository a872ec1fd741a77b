-- A restart changes no contents and no verdict. Assumes nothing.
use Rattle.std.proofs.Common.{◌≡◌, refl, ap, ◌∙◌}
use Rattle.flash.specs.Model.{State, started, blocks_of}
use Rattle.rules.specs.Mounting.{verdict}

pub blocks-started : (s : State) → blocks_of (started s) ≡ blocks_of s
unfolding blocks_of
blocks-started s = refl

-- a restart changes no verdict
pub verdict-started : (s m : State) → m ≡ started s → verdict m.n m.p (blocks_of m) ≡ verdict s.n s.p (blocks_of s)
verdict-started s m e = ap (λ (x : State). verdict x.n x.p (blocks_of x)) e ∙ ap (verdict s.n s.p) (blocks-started s)
