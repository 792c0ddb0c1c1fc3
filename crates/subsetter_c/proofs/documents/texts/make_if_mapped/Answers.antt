use Rattle.subsetter_c.specs.Documents.Texts.{unmapped}
use Rattle.std.proofs.Common.{refl}
use Rattle.subsetter_c.proofs.documents.texts.make_if_mapped.Goals as goal

pub returns-in-None : goal.returns-in-None
returns-in-None c = unmapped (record { opens = c.requires.opens; none = rw c.in-None.is at c.requires.found }) c.no_whole.ensures refl
