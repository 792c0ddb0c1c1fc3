use Rattle.std.proofs.Common.{◌≡◌, length, true}
use Rattle.subsetter_sfnt.specs.Read.{Font}
use Rattle.pdf_font.specs.PdfFont.{IsPdfFont, font_of}
use Rattle.subsetter_pdf_c.specs.Entries.{are_texts, uses_in}
use Rattle.subsetter_pdf_c.proofs.Steps.{texts_fit}
use Rattle.subsetter_c.specs.Documents.PdfFonts.{IsFontRefused}
use Rattle.subsetter_c.specs.Settings.{settings_of}
use Rattle.subsetter_c.proofs.DocumentsLaws.PdfFonts.{without_memory}
use Rattle.subsetter_c.proofs.DocumentsLaws.Whole.{whole_handed}
use Rattle.subsetter_c.proofs.documents.whole.make_whole.Goals as goal

pub font_for-answer-requires : goal.font_for-answer-requires
font_for-answer-requires c =
    let h : are_texts (length c.args.glyphs.now) c.args.text.now c.args.ends.now ≡ true = cc in
    texts_fit (length c.args.glyphs.now) c.args.text.now c.args.ends.now h

pub returns-clause-made : goal.returns-clause-made
returns-clause-made c = λ h.
    let font : Font = font_of c.args.font.now c.args.index c.args.options.now in
    let settings = settings_of c.args.coordinates.now in
    let us = uses_in c.args.glyphs.now c.args.text.now c.args.ends.now in
    whole_handed (IsPdfFont font settings c.args.options.now us) (IsFontRefused font settings c.args.options.now us) c.font_for-answer.result c.args.glyphs.now c.args.text.now c.args.ends.now c.hand_whole.new.made c.hand_whole.result
    c.font_for-answer.ensures.ok c.font_for-answer.ensures.err (λ f is. without_memory font settings c.args.options.now us f is) c.hand_whole.ensures
