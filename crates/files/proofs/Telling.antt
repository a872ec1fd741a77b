-- What is told of an image as a whole, from its parts. Assumes nothing.
use Rattle.std.proofs.Common.{◌≡◌, ℕ, Bool, List, ◌++◌, sym, ap, subst, ◌∙◌}
use Rattle.image.specs.Format.{misfit, image_of}
use Rattle.lines.specs.Heads.{head_line}
use Rattle.files.specs.Info.{VerdictTold, IsInfo}

same_line : (n p n' p' : ℕ) (on on' : Bool) → n ≡ n' → p ≡ p' → on ≡ on' → head_line n p on ≡ head_line n' p' on'
same_line n p n' p' on on' a b c = ap (λ (k : ℕ). head_line k p on) a ∙ ap (λ (k : ℕ). head_line n' k on) b ∙ ap (λ (v : Bool). head_line n' p' v) c

-- the sizes are those of the bytes zs of the chip made, and the mount was of the bytes ys of the chip attached
pub info_told : (xs ys zs : List ℕ) (n p : ℕ) (on : Bool) (head text : List ℕ) → misfit xs ≡ 0 → zs ≡ xs → ys ≡ xs → n ≡ (image_of zs).n → p ≡ (image_of zs).p → on ≡ (image_of zs).on → head ≡ head_line n p on
    → ((image_of ys).n ≡ n → (more : List ℕ) × VerdictTold (image_of ys) more × (text ≡ head ++ more)) → IsInfo xs text
info_told xs ys zs n p on head text w z y en ep eo h t =
    let n' : n ≡ (image_of xs).n = en ∙ ap (λ (v : List ℕ). (image_of v).n) z in
    let line : head ≡ head_line (image_of xs).n (image_of xs).p (image_of xs).on = h ∙ same_line n p (image_of xs).n (image_of xs).p on (image_of xs).on n' (ep ∙ ap (λ (v : List ℕ). (image_of v).p) z) (eo ∙ ap (λ (v : List ℕ). (image_of v).on) z) in
    let m = t (ap (λ (v : List ℕ). (image_of v).n) y ∙ sym n') in
    record { image = w; more = m.0; told = subst (λ (v : List ℕ). VerdictTold (image_of v) m.0) y m.1; is = m.2 ∙ ap (λ (hs : List ℕ). hs ++ m.0) line }
