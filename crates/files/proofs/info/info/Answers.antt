use Rattle.lines.specs.Heads.{head_line}
use Rattle.std.proofs.Common.{◌≡◌, List, ◌++◌, ℕ, ap, ◌∙◌, string_bytes, vec_items}
use Rattle.image.specs.declared.images.ImageChip.{ImageChip}
use Rattle.files.proofs.Telling.{info_told}
use Rattle.files.proofs.info.info.Goals as goal

-- src/info.rt:57:1
pub returns : goal.returns
returns c =
    let made = c.in_ok-chip.ensures in
    let same : vec_items c.in_ok-chip.chip.bytes ≡ vec_items c.args.bytes = ap vec_items made.1 in
    let kept : vec_items c.in-Ok.store.chip.bytes ≡ vec_items c.args.bytes = ap (λ (k : ImageChip). vec_items k.bytes) c.in-Ok.ensures.0 ∙ same in
    let sizes = c.sizes-sizes in
    info_told (vec_items c.args.bytes) (vec_items c.in-Ok.store.chip.bytes) (vec_items c.in_ok-chip.chip.bytes) sizes.result.blocks sizes.result.chunks c.is_on.result
    (string_bytes c.head_line.new.out) (string_bytes c.mount_lines.new.out) made.0 same kept sizes.ensures.blocks sizes.ensures.chunks c.is_on.ensures
    (c.in_ok-head_line.ensures ∙ ap (λ (hs : List ℕ). hs ++ head_line sizes.result.blocks sizes.result.chunks c.is_on.result) c.new-out.ensures.bytes)
    c.in_ok-mount_lines.ensures.told
