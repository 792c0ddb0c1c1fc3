use Rattle.std.proofs.Common.{◌≡◌, ◌≤◌, ◌-◌}
use Rattle.subsetter_cffdata.specs.Indexes.IndexView.{items}
use Rattle.pdf_boxes.specs.Kept.{boxes_from}
use Rattle.pdf_boxes.proofs.boxes.box_around.Given as goal

abbrev pub invariant-loop-left : goal.invariant-loop-left
invariant-loop-left l = record {
  within : l.left ≤ l.count;
  so_far : l.kept ≡ boxes_from (items l.char_strings) l.left (l.count - l.left);
}

abbrev pub decreases-loop-left : goal.decreases-loop-left
decreases-loop-left l = l.left
