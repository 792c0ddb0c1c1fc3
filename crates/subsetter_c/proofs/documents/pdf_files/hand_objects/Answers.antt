use Rattle.std.proofs.Common.{refl}
use Rattle.subsetter_c.specs.Documents.PdfObjects.{whole, refused}
use Rattle.subsetter_c.proofs.documents.pdf_files.hand_objects.Goals as goal

pub returns-in-Ok : goal.returns-in-Ok
returns-in-Ok c = whole (c.in-Ok.objects, c.in-Ok.is, c.kept_bytes.ensures, c.kept_sizes.ensures) refl

pub returns-in-Err : goal.returns-in-Err
returns-in-Err c = refused c.in-Err.error c.in-Err.is c.nothing.ensures c.status_of.ensures
