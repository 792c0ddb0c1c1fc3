use Rattle.std.proofs.Common.{◌≡◌, drop}
use Rattle.std.specs.Option.{option_copied}
use Rattle.font_reasons.specs.Varying.{first_large}
use Rattle.font_reasons.proofs.varying.first_large.Given as goal

abbrev pub invariant-loop-glyph : goal.invariant-loop-glyph
invariant-loop-glyph l = first_large l.limit (option_copied l.hvar) l.at l.hmtx l.count (drop l.glyph-index l.glyphs) ≡ first_large l.limit (option_copied l.hvar) l.at l.hmtx l.count l.glyphs
