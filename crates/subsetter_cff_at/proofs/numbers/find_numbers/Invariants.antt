use Rattle.std.proofs.Common.{◌≡◌, drop}
use Rattle.subsetter_cff2.specs.Cff2View.{cff2_of}
use Rattle.subsetter_cff_at.specs.Plain.{numbers_from}
use Rattle.subsetter_cff_at.specs.View.{with_numbers}
use Rattle.subsetter_cff_at.proofs.numbers.find_numbers.Given as goal

abbrev pub invariant-loop-glyph : goal.invariant-loop-glyph
invariant-loop-glyph l = with_numbers l.numbers.items (numbers_from (cff2_of l.table) l.glyph (drop l.glyph l.glyphs)) ≡ numbers_from (cff2_of l.table) 0 l.glyphs
