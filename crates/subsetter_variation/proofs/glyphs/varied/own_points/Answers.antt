use Rattle.std.proofs.Common.{ap, ◌∙◌}
use Rattle.subsetter_variation.specs.Glyphs.Varied.{points}
use Rattle.subsetter_variation.proofs.glyphs.varied.own_points.Goals as goal

pub returns : goal.returns
returns c = c.in_ok-points.ensures ∙ ap (points c.args.coordinates.now) (c.deref.ensures.value ∙ c.in_ok-own.ensures)
