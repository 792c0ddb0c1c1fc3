use Rattle.std.proofs.Common.{◌≡◌, map, None}
use Rattle.std.specs.List.{fold, range_with_len}
use Rattle.subsetter_instance.specs.Tables.Extremes.{joined}
use Rattle.subsetter_cff_instance.specs.Boxes.{glyph_extents}
use Rattle.subsetter_cff_instance.proofs.boxes.all_extents.Given as goal

abbrev pub invariant-loop-glyph : goal.invariant-loop-glyph
invariant-loop-glyph l = l.extents ≡ fold joined None (map (glyph_extents l.all l.boxes) (range_with_len 0 l.glyph))
