use Rattle.std.proofs.Common.{◌≡◌, ◌++◌, drop, map}
use Rattle.subsetter_variation.specs.Items.Advances.{advance_index}
use Rattle.subsetter_variation.proofs.items.advances.advance_items.Given as goal

abbrev pub invariant-loop-glyph : goal.invariant-loop-glyph
invariant-loop-glyph l = l.items.items ++ map (advance_index l.hvar) (drop l.glyph-index l.glyphs) ≡ map (advance_index l.hvar) l.glyphs
