use Rattle.std.proofs.Common.{◌≡◌, drop}
use Rattle.std.specs.List.{fold}
use Rattle.subsetter_boxes.specs.Joined.{joined, least_box}
use Rattle.subsetter_boxes.proofs.joining.least_box.Given as goal

abbrev pub invariant-loop-bounds : goal.invariant-loop-bounds
invariant-loop-bounds l = least_box l.boxes ≡ fold joined l.all (drop l.bounds-index l.boxes)
