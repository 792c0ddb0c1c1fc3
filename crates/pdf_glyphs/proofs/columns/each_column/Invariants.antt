use Rattle.std.proofs.Common.{◌≡◌, ◌++◌, drop, length}
use Rattle.std.specs.Option.{option_map}
use Rattle.pdf_glyphs.specs.HeightVariation.{variation_view}
use Rattle.pdf_glyphs.specs.Vertical.{columns_at, columns_from, vertical_view}
use Rattle.pdf_glyphs.proofs.columns.each_column.Given as goal

abbrev pub invariant-loop-index : goal.invariant-loop-index
invariant-loop-index l = record {
  so_far : l.columns.items ++ columns_from (vertical_view l.tables) (option_map variation_view l.variation) l.tops l.index (drop l.index l.glyphs) (drop l.index l.widths) ≡ columns_at (vertical_view l.tables) (option_map variation_view l.variation) l.tops l.glyphs l.widths;
  as_many : length l.columns.items ≡ l.index;
}
