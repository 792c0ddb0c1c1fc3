use Rattle.std.proofs.Common.{◌≡◌}
use Rattle.subsetter_cff.specs.Read.Source.{cff_of}
use Rattle.subsetter_cff.specs.Write.Plain.{kept_glyph}
use Rattle.font_reasons.specs.Charstrings.{cff_tag, first_refusal}
use Rattle.font_reasons.proofs.charstrings.first_refusal.Given as goal

abbrev pub invariant-loop-glyph : goal.invariant-loop-glyph
invariant-loop-glyph l = first_refusal cff_tag (kept_glyph (cff_of l.table) l.limits.tokens l.limits.depth) l.glyph-iterator ≡ first_refusal cff_tag (kept_glyph (cff_of l.table) l.limits.tokens l.limits.depth) l.mapper
