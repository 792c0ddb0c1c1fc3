use Rattle.std.proofs.Common.{◌≡◌, ◌⊎◌, length, true}
use Rattle.subsetter_base.specs.declared.error.Error.TheVariants.{OutOfMemory, OverflowError}
use Rattle.subsetter_pdf_c.specs.Entries.{are_texts, texts_from}
use Rattle.subsetter_pdf_c.specs.Written.{IsSheetOf, IsTooLargeFor}
use Rattle.subsetter_pdf_c.proofs.Steps.{texts_fit}
use Rattle.subsetter_c.proofs.DocumentsLaws.PdfObjects.{file_written}
use Rattle.subsetter_c.proofs.documents.pdf_calls.subsetter_make_pdf_sheet.Goals as goal

pub sheet_of-requires : goal.sheet_of-requires
sheet_of-requires c =
    let h : are_texts (length c.args.glyphs.now) c.args.text.now c.args.ends.now ≡ true = cc in
    texts_fit (length c.args.glyphs.now) c.args.text.now c.args.ends.now h

pub returns-clause-made : goal.returns-clause-made
returns-clause-made c = λ less h.
    let texts = texts_from c.args.text.now 0 c.args.ends.now in
    let layout = c.layout_of-chosen.result in
    rw (← c.layout_of-chosen.ensures) (file_written (λ e. (e ≡ OutOfMemory) ⊎ ((e ≡ OverflowError) × IsTooLargeFor c.args.font.now texts layout)) c.hand_file.new.made c.hand_file.result
    (IsSheetOf c.args.font.now texts layout) c.sheet_of.result c.sheet_of.ensures.ok c.sheet_of.ensures.err c.hand_file.ensures)
