use Rattle.std.proofs.Common.{arith}
use Rattle.std.proofs.lemmas.Grind.{common_steps}
use Rattle.sparse.proofs.chips.SparseChip.keep.Goals as goal

pub invariant_of-self : goal.invariant_of-self
invariant_of-self c = let w = c.args.self.now in record { has_chunks = w.has_chunks; whole = λ b x. grind (arith, common_steps, w.whole b x) }

pub invariant_of-self-in-Break-1 : goal.invariant_of-self-in-Break-1
invariant_of-self-in-Break-1 c = let w = c.args.self.now in record { has_chunks = w.has_chunks; whole = λ b x. grind (arith, common_steps, w.whole b x) }

pub invariant_of-self-2 : goal.invariant_of-self-2
invariant_of-self-2 c = let w = c.args.self.now in record { has_chunks = w.has_chunks; whole = λ b x. grind (arith, common_steps, w.whole b x) }
