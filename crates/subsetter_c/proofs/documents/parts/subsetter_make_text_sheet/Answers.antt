use Rattle.std.proofs.Common.{◌≡◌, ◌⊎◌}
use Rattle.subsetter_base.specs.declared.error.Error.TheVariants.{OutOfMemory, OverflowError}
use Rattle.subsetter_pdf_c.specs.Written.{AreLinesOf, AreTooLargeFor}
use Rattle.subsetter_c.proofs.DocumentsLaws.PdfObjects.{file_written}
use Rattle.subsetter_c.proofs.documents.parts.subsetter_make_text_sheet.Goals as goal

pub returns-clause-made : goal.returns-clause-made
returns-clause-made c = λ own.
    let font = c.args.font.now in
    file_written (λ e. (e ≡ OutOfMemory) ⊎ ((e ≡ OverflowError) × AreTooLargeFor font.pdf font.cid_to_gid_map.now c.args.lines.now)) c.hand_file.new.made c.hand_file.result
    (AreLinesOf font.pdf font.cid_to_gid_map.now c.args.lines.now) c.lines_of.result c.lines_of.ensures.ok c.lines_of.ensures.err c.hand_file.ensures
