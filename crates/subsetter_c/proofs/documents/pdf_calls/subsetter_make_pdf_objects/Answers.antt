use Rattle.std.proofs.Common.{◌≡◌, ◌⊎◌, []}
use Rattle.subsetter_base.specs.declared.error.Error.TheVariants.{OutOfMemory, OverflowError}
use Rattle.subsetter_pdf_c.specs.Written.{AreObjectsOf, HaveNoNumbers}
use Rattle.subsetter_c.proofs.DocumentsLaws.PdfObjects.{objects_written}
use Rattle.subsetter_c.proofs.documents.pdf_calls.subsetter_make_pdf_objects.Goals as goal

pub returns : goal.returns
returns c =
    objects_written (λ e. (e ≡ OutOfMemory) ⊎ ((e ≡ OverflowError) × HaveNoNumbers c.args.font.now [] c.args.first)) c.hand_objects.new.made c.hand_objects.result
    (AreObjectsOf c.args.font.now [] c.args.first) c.write_objects.result c.write_objects.ensures.ok c.write_objects.ensures.err c.hand_objects.ensures
