use Rattle.std.proofs.Common.{◌≡◌, length, true}
use Rattle.pdf_codes.specs.Codes.{AreCodes}
use Rattle.subsetter_pdf_c.specs.Entries.{are_texts, uses_in}
use Rattle.subsetter_pdf_c.proofs.Steps.{texts_fit}
use Rattle.subsetter_c.specs.Documents.Codes.{IsCodesRefusal}
use Rattle.subsetter_c.proofs.AnswersLaws.Bytes.{answer_handed}
use Rattle.subsetter_c.proofs.documents.codes.hand_codes.Goals as goal

pub codes_for-requires : goal.codes_for-requires
codes_for-requires c =
    let h : are_texts (length c.args.glyphs.now) c.args.text.now c.args.ends.now ≡ true = cc in
    texts_fit (length c.args.glyphs.now) c.args.text.now c.args.ends.now h

pub returns-clause-codes : goal.returns-clause-codes
returns-clause-codes c = λ h.
    let us = uses_in c.args.glyphs.now c.args.text.now c.args.ends.now in
    answer_handed (AreCodes c.args.kind us) (IsCodesRefusal c.args.kind us) c.codes_for.result c.args.codes.now c.hand_glyphs.new.buffer c.hand_glyphs.new.told c.hand_glyphs.result c.codes_for.ensures.ok c.codes_for.ensures.err c.hand_glyphs.ensures
