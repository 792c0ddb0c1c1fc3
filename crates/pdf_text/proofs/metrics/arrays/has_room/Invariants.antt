use Rattle.std.proofs.Common.{◌≡◌, drop}
use Rattle.std.specs.Prelude.{nat_le}
use Rattle.pdf_text.specs.Metrics.Arrays.{elements, has_room}
use Rattle.pdf_text.specs.View.{parts_view}
use Rattle.pdf_text.proofs.metrics.arrays.has_room.Given as goal

abbrev pub invariant-loop-part : goal.invariant-loop-part
invariant-loop-part l = nat_le (elements l.numbers (parts_view (drop l.part-index l.parts))) l.left ≡ has_room l.numbers (parts_view l.parts)
