use Rattle.std.proofs.Common.{◌≡◌, ◌∙◌, rules}
use Rattle.checks.proofs.Light.{light, light_told}
use Rattle.checks.proofs.cleaning.some_light.Goals as goal

pub returns : goal.returns
returns c = λ st k told. (let e : c.is_some_and.result ≡ light c.to_clean.result c.args.index.now.sizes.chunks = search rules in e ∙ light_told st _ _ k.knows.chunks (c.to_clean.ensures st.flash told))
