use Rattle.pdf_text.proofs.CmapsLaws.NamedSteps as laws
use Rattle.pdf_text.proofs.cmaps.named.named_codes_are_read.Goals as goal

pub returns : goal.returns
returns c = laws.named_codes_are_read
