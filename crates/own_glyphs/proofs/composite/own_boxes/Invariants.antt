use Rattle.std.proofs.Common.{◌≡◌, drop}
use Rattle.subsetter_base.proofs.Results.{with_front}
use Rattle.own_glyphs.specs.Composite.{own_boxes}
use Rattle.own_glyphs.specs.View.{seen}
use Rattle.own_glyphs.proofs.composite.own_boxes.Given as goal

abbrev pub invariant-loop-glyph : goal.invariant-loop-glyph
invariant-loop-glyph l = with_front l.boxes.items (own_boxes (seen l.source) (drop l.glyph-index l.own)) ≡ own_boxes (seen l.source) l.own
