use Rattle.std.proofs.Common.{◌≡◌, ◌++◌, drop, map}
use Rattle.subsetter_variation.specs.Items.Advances.{origin_index}
use Rattle.subsetter_variation.proofs.items.advances.origin_items.Given as goal

abbrev pub invariant-loop-glyph : goal.invariant-loop-glyph
invariant-loop-glyph l = l.items.items ++ map (origin_index l.vvar) (drop l.glyph-index l.glyphs) ≡ map (origin_index l.vvar) l.glyphs
