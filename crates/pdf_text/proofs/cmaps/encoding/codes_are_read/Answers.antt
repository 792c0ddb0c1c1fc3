use Rattle.pdf_text.proofs.CmapsLaws.CmapLaws.Read as laws
use Rattle.pdf_text.proofs.cmaps.encoding.codes_are_read.Goals as goal

pub returns : goal.returns
returns c = laws.codes_are_read
