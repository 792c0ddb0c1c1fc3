use Rattle.pdf_text.proofs.CmapsLaws.CmapLaws.Read as laws
use Rattle.pdf_text.proofs.cmaps.to_unicode.cmap_is_read.Goals as goal

pub returns : goal.returns
returns c = laws.cmap_is_read
