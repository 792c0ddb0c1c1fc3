use Rattle.std.proofs.Common.{◌≡◌, ◌≤◌, ◌-◌}
use Rattle.pdf_glyphs.specs.Boxes.{boxes_from, outlines_view}
use Rattle.pdf_glyphs.proofs.boxes.box_around.Given as goal

abbrev pub invariant-loop-left : goal.invariant-loop-left
invariant-loop-left l = record {
  within : l.left ≤ l.count;
  so_far : l.kept ≡ boxes_from (outlines_view l.tables) l.left (l.count - l.left);
}

abbrev pub decreases-loop-left : goal.decreases-loop-left
decreases-loop-left l = l.left
