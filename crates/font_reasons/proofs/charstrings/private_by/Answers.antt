use Rattle.std.proofs.Common.{◌∙◌, length, sym}
use Rattle.std.proofs.lemmas.Bool.{ltb-true, ltb-false}
use Rattle.subsetter_cff.proofs.WriteLaws.GlyphsLaws.GlyphsKept.{private_without, private_with, no_dict, dict_there}
use Rattle.font_reasons.proofs.charstrings.private_by.Goals as goal

pub returns-in-None : goal.returns-in-None
returns-in-None c = private_without c.args.table.now c.args.glyph c.requires.source c.in-None.is

pub returns-in_err-font_dict-in-Some : goal.returns-in_err-font_dict-in-Some
returns-in_err-font_dict-in-Some c =
    rw c.from_residual.ensures (no_dict c.deref.result.now c.in-Some.parts.font_dicts.items c.args.number c.deref.ensures.value (ltb-false c.args.number (length c.deref.result.now) (sym c.in_err-font_dict-in-Some.ensures.lookup.0))
    ∙ private_with c.args.table.now c.in-Some.parts c.args.glyph c.args.number c.requires.source c.in-Some.is c.requires.number)

pub returns-in_ok-font_dict-in-Some : goal.returns-in_ok-font_dict-in-Some
returns-in_ok-font_dict-in-Some c =
    dict_there c.deref.result.now c.in-Some.parts.font_dicts.items c.args.number c.in_ok-font_dict-in-Some.font_dict.now c.deref.ensures.value (ltb-true c.args.number (length c.deref.result.now) (sym c.in_ok-font_dict-in-Some.ensures.lookup.0)) c.in_ok-font_dict-in-Some.ensures.lookup.1
    ∙ private_with c.args.table.now c.in-Some.parts c.args.glyph c.args.number c.requires.source c.in-Some.is c.requires.number
