use Rattle.std.proofs.Common.{◌≡◌, map, take}
use Rattle.std.specs.Option.{option_map}
use Rattle.pdf_glyphs.specs.HeightVariation.{variation_view}
use Rattle.pdf_glyphs.specs.Vertical.{vertical_view}
use Rattle.font_advances.specs.Heights.{height}
use Rattle.font_advances.proofs.heights.each_height.Given as goal

abbrev pub invariant-loop-place : goal.invariant-loop-place
invariant-loop-place l = l.heights.items ≡ map (height (vertical_view l.tables) (option_map variation_view l.variation) l.units) (take l.place l.glyphs)
