use Rattle.std.proofs.Common.{inr}
use Rattle.subsetter_c.specs.Documents.Texts.{no_glyphs}
use Rattle.subsetter_c.proofs.documents.texts.make_of_text.Goals as goal

pub returns-in-Err : goal.returns-in-Err
returns-in-Err c = no_glyphs c.in-Err.error (inr c.in-Err.ensures.err) c.no_whole.ensures c.status_of.ensures
