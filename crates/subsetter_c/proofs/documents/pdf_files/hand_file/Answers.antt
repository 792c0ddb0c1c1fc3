use Rattle.std.proofs.Common.{refl, sym}
use Rattle.subsetter_c.specs.Documents.PdfObjects.{whole, refused}
use Rattle.subsetter_c.proofs.documents.pdf_files.hand_file.Goals as goal

pub returns-in-Ok : goal.returns-in-Ok
returns-in-Ok c = whole ((c.in-Ok.file, c.in-Ok.is, sym c.kept_bytes.ensures), refl) refl

pub returns-in-Err : goal.returns-in-Err
returns-in-Err c = refused c.in-Err.error c.in-Err.is c.nothing.ensures c.status_of.ensures
