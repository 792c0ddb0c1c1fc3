use Rattle.std.proofs.Common.{◌≡◌, true, false, sym, ap, ◌∙◌}
use Rattle.subsetter_sfnt.specs.Read.{Font}
use Rattle.pdf_codes.specs.Shown.{uses_of}
use Rattle.pdf_font.specs.PdfFont.{font_of, lacks_outlines}
use Rattle.subsetter_pdf_c.specs.Entries.{uses_in}
use Rattle.subsetter_c.specs.Settings.{settings_of}
use Rattle.subsetter_c.proofs.DocumentsLaws.PdfFonts.{answered, bare, refused_by, unopened_at, uses_there}
use Rattle.subsetter_c.proofs.documents.pdf_fonts.font_for.Goals as goal

pub returns-then-lacks_outlines-clause-err : goal.returns-then-lacks_outlines-clause-err
returns-then-lacks_outlines-clause-err c =
    let font : Font = font_of c.args.font.now c.args.index c.args.options.now in
    let is : lacks_outlines font ≡ true = sym c.lacks_outlines.ensures ∙ c.if-lacks_outlines.true in
    bare font (settings_of c.args.coordinates.now) c.args.options.now (uses_in c.args.glyphs.now c.args.text.now c.args.ends.now) is

pub returns-in-Err-clause-err : goal.returns-in-Err-clause-err
returns-in-Err-clause-err c =
    let font : Font = font_of c.args.font.now c.args.index c.args.options.now in
    let other : lacks_outlines font ≡ false = sym c.lacks_outlines.ensures ∙ c.if-lacks_outlines.false in
    unopened_at c.args.font.now c.args.index (settings_of c.args.coordinates.now) c.args.options.now (uses_in c.args.glyphs.now c.args.text.now c.args.ends.now) c.extras-extras.result c.extras-extras.ensures other c.in-Err.error c.in-Err.ensures.err c.in-Err.ensures.before_memory

pub returns-in-Err-shown_for-clause-err : goal.returns-in-Err-shown_for-clause-err
returns-in-Err-shown_for-clause-err c =
    let font : Font = font_of c.args.font.now c.args.index c.args.options.now in
    let other : lacks_outlines font ≡ false = sym c.lacks_outlines.ensures ∙ c.if-lacks_outlines.false in
    unopened_at c.args.font.now c.args.index (settings_of c.args.coordinates.now) c.args.options.now (uses_in c.args.glyphs.now c.args.text.now c.args.ends.now) c.extras-extras.result c.extras-extras.ensures other c.in-Err-shown_for.error c.in-Err-shown_for.ensures.err c.in-Err-shown_for.ensures.before_memory

pub returns-clause-ok : goal.returns-clause-ok
returns-clause-ok c =
    let font : Font = font_of c.args.font.now c.args.index c.args.options.now in
    answered font (settings_of c.args.coordinates.now) c.args.options.now (uses_in c.args.glyphs.now c.args.text.now c.args.ends.now) c.deref-2.result.now (uses_of c.deref-3.result.now) (c.deref-2.ensures.value ∙ c.in-Ok.ensures.settings)
    (uses_there c.in-Ok-shown_for.shown.items c.deref-3.result.now c.args.glyphs.now c.deref.result.now c.args.text.now c.args.ends.now c.deref-3.ensures.value c.in-Ok-shown_for.ensures.glyphs c.in-Ok-shown_for.ensures.texts (c.deref.ensures.value ∙ c.in-Ok.ensures.characters))
    c.pdf_font.result c.pdf_font.ensures.ok

pub returns-clause-err : goal.returns-clause-err
returns-clause-err c =
    let font : Font = font_of c.args.font.now c.args.index c.args.options.now in
    refused_by font (settings_of c.args.coordinates.now) c.args.options.now (uses_in c.args.glyphs.now c.args.text.now c.args.ends.now) c.deref-2.result.now (uses_of c.deref-3.result.now) (c.deref-2.ensures.value ∙ c.in-Ok.ensures.settings)
    (uses_there c.in-Ok-shown_for.shown.items c.deref-3.result.now c.args.glyphs.now c.deref.result.now c.args.text.now c.args.ends.now c.deref-3.ensures.value c.in-Ok-shown_for.ensures.glyphs c.in-Ok-shown_for.ensures.texts (c.deref.ensures.value ∙ c.in-Ok.ensures.characters))
    c.pdf_font.result c.pdf_font.ensures.err c.pdf_font.ensures.no_answer c.pdf_font.ensures.first
