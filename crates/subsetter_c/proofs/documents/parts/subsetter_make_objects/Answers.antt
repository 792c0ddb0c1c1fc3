use Rattle.std.proofs.Common.{◌≡◌, ◌⊎◌}
use Rattle.subsetter_base.specs.declared.error.Error.TheVariants.{OutOfMemory, OverflowError}
use Rattle.subsetter_pdf_c.specs.Written.{AreObjectsOf, HaveNoNumbers}
use Rattle.subsetter_c.proofs.DocumentsLaws.PdfObjects.{objects_written}
use Rattle.subsetter_c.proofs.documents.parts.subsetter_make_objects.Goals as goal

pub returns-clause-made : goal.returns-clause-made
returns-clause-made c = λ own.
    let font = c.args.font.now in
    objects_written (λ e. (e ≡ OutOfMemory) ⊎ ((e ≡ OverflowError) × HaveNoNumbers font.pdf font.cid_to_gid_map.now c.args.first)) c.hand_objects.new.made c.hand_objects.result
    (AreObjectsOf font.pdf font.cid_to_gid_map.now c.args.first) c.write_objects-answer.result c.write_objects-answer.ensures.ok c.write_objects-answer.ensures.err c.hand_objects.ensures
