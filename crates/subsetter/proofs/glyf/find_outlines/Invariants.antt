use Rattle.std.proofs.Common.{◌≡◌, ◌++◌}
use Rattle.std.specs.Option.{option_copied}
use Rattle.std.specs.Prelude.{map}
use Rattle.subsetter.specs.Glyf.Read.{outline_in}
use Rattle.subsetter.specs.Glyf.View.{seen}
use Rattle.subsetter.proofs.glyf.find_outlines.Given as goal

abbrev pub invariant-loop-glyph : goal.invariant-loop-glyph
invariant-loop-glyph l = map option_copied l.outlines.items ++ map (outline_in (seen l.table)) l.glyph-iterator ≡ map (outline_in (seen l.table)) l.mapper
