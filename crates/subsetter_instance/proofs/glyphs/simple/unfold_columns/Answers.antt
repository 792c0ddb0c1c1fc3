use Rattle.std.proofs.Common.{arith}
use Rattle.subsetter_instance.proofs.GlyphsLaws.Ends.{enough}
use Rattle.subsetter_instance.proofs.glyphs.simple.unfold_columns.Goals as goal

pub moved_simple-requires-clause-few : goal.moved_simple-requires-clause-few
moved_simple-requires-clause-few c = omega (arith, enough _ _ _ c.in_ok-steps.ensures)

pub simple_outline-unfolded-requires-clause-few : goal.simple_outline-unfolded-requires-clause-few
simple_outline-unfolded-requires-clause-few c = omega (arith, enough _ _ _ c.in_ok-steps.ensures)
