use Rattle.std.proofs.Common.{refl}
use Rattle.subsetter_c.specs.Documents.PdfFonts.{whole, refused}
use Rattle.subsetter_c.proofs.documents.pdf_fonts.hand_font.Goals as goal

pub returns-in-Ok : goal.returns-in-Ok
returns-in-Ok c = whole c.in-Ok.font c.in-Ok.is c.laid_out.ensures refl

pub returns-in-Err : goal.returns-in-Err
returns-in-Err c = refused c.in-Err.error c.in-Err.is c.no_font.ensures c.refusal_status.ensures
