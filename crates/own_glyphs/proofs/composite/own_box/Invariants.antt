use Rattle.std.proofs.Common.{◌≡◌, None, drop}
use Rattle.own_glyphs.specs.Composite.{around, part_boxes}
use Rattle.own_glyphs.specs.View.{seen}
use Rattle.own_glyphs.proofs.composite.own_box.Given as goal

abbrev pub invariant-loop-part : goal.invariant-loop-part
invariant-loop-part l = around l.all (part_boxes (seen l.source) (drop l.part-index l.parts)) ≡ around None (part_boxes (seen l.source) l.parts)
