-- What mount leaves, from what the scan left. Assumes nothing.
use Rattle.std.proofs.Common.{◌≡◌, ℕ, List, map, take, vec_items, sym, ap, ◌∙◌}
use Rattle.flash.specs.declared.chunks.Chunk.{Chunk}
use Rattle.flash.specs.Model.{State, started, blocks_of, view_of}
use Rattle.rules.specs.declared.standings.Standing.{Standing}
use Rattle.rules.specs.Places.{Flash}
use Rattle.rules.specs.Mounting.{mounted, mounted_block}
use Rattle.scan.specs.declared.indexes.Index.{Index}
use Rattle.scan.specs.Indexes.{stands_in, Knows}
use Rattle.scan.proofs.Accepting.{blocks-started}

same_blocks : (s m : State) → m ≡ started s → blocks_of m ≡ blocks_of s
same_blocks s m e = ap blocks_of e ∙ blocks-started s

pub flash_mounted : (s m : State) (x : Index) → m ≡ started s → Knows (view_of m) x → stands_in x ≡ map mounted_block (blocks_of m) → ◌≡◌ {A = Flash} (record { blocks = blocks_of m; stand = take m.n (vec_items x.standings) }) (mounted (blocks_of s))
flash_mounted s m x e k c =
    ap {B = Flash} (λ (xs : List Standing). record { blocks = blocks_of m; stand = xs }) (ap (λ (i : ℕ). take i (vec_items x.standings)) (sym k.blocks) ∙ c)
    ∙ ap mounted (same_blocks s m e)

pub flash_same : (s m : State) (xs ys : List Standing) → m ≡ started s → ys ≡ xs → ◌≡◌ {A = Flash} (record { blocks = blocks_of m; stand = take m.n ys }) (record { blocks = blocks_of s; stand = take s.n xs })
flash_same s m xs ys e h =
    ap {B = Flash} (λ (bs : List (List Chunk)). record { blocks = bs; stand = take m.n ys }) (same_blocks s m e)
    ∙ ap {B = Flash} (λ (i : ℕ). record { blocks = blocks_of s; stand = take i ys }) (ap (λ (t : State). t.n) e)
    ∙ ap {B = Flash} (λ (zs : List Standing). record { blocks = blocks_of s; stand = take s.n zs }) h
