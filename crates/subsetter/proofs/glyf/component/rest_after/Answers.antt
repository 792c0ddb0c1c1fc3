use Rattle.std.proofs.Common.{◌+◌, ℕ, drop, ap, ◌∙◌, arith}
use Rattle.subsetter_base.proofs.Lists.{rest_of}
use Rattle.subsetter.specs.Glyf.View.{component_seen}
use Rattle.subsetter.proofs.GlyfLaws.Chains.{is_component}
use Rattle.subsetter.proofs.glyf.component.rest_after.Goals as goal

pub slice_bounds-result-start : goal.slice_bounds-result-start
slice_bounds-result-start c =
    let k = is_component c.args.bytes.now (component_seen c.args.component) c.requires in
    omega (arith, k.within, k.size)

pub returns : goal.returns
returns c =
    let k = is_component c.args.bytes.now (component_seen c.args.component) c.requires in
    rest_of _ c.args.bytes.now ∙ ap (λ (n : ℕ). drop (4 + n) c.args.bytes.now) k.size
