use Rattle.std.proofs.Common.{◌∙◌}
use Rattle.subsetter_cff.proofs.WriteLaws.GlyphsLaws.GlyphsKept.{number_with}
use Rattle.subsetter_cff.proofs.write.glyphs.kept_glyphs.source_number.Goals as goal

pub returns-in-Some : goal.returns-in-Some
returns-in-Some c = c.font_dict_index.ensures ∙ number_with c.args.source.now c.in-Some.parts c.args.glyph c.requires c.in-Some.is
