use Rattle.pdf_text.proofs.ObjectLaws.At.{are_referred_to}
use Rattle.pdf_text.proofs.objects.objects_are_referred_to.Goals as goal

pub returns : goal.returns
returns c = are_referred_to
