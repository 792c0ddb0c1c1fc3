use Rattle.std.proofs.Common.{arith, refl}
use Rattle.std.proofs.lemmas.Int.{ints}
use Rattle.pdf_values.proofs.Nearest.{same_below, same_above}
use Rattle.pdf_values.proofs.looks.bounds.outward.Goals as goal

pub returns-clause-around : goal.returns-clause-around
returns-clause-around c =
    let b = c.args.glyphs in
    record {
      left = same_below b.x_min _ c.args.units _ c.low_edge.result _ (omega (arith, ints)) refl (omega (arith, ints)) c.low_edge.ensures.below;
      bottom = same_below b.y_min _ c.args.units _ c.low_edge-2.result _ (omega (arith, ints)) refl (omega (arith, ints)) c.low_edge-2.ensures.below;
      right = same_above b.x_max _ c.args.units _ c.high_edge.result _ (omega (arith, ints)) refl (omega (arith, ints)) c.high_edge.ensures.above;
      top = same_above b.y_max _ c.args.units _ c.high_edge-2.result _ (omega (arith, ints)) refl (omega (arith, ints)) c.high_edge-2.ensures.above;
    }
