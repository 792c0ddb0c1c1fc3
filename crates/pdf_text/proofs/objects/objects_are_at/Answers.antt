use Rattle.pdf_text.proofs.ObjectLaws.At.{are_at}
use Rattle.pdf_text.proofs.objects.objects_are_at.Goals as goal

pub returns : goal.returns
returns c = are_at
