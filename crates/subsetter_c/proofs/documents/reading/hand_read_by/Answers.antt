use Rattle.std.proofs.Common.{◌≡◌}
use Rattle.subsetter_base.specs.declared.error.Error.TheVariants.{OutOfMemory}
use Rattle.text_glyphs.specs.View.{source_view}
use Rattle.subsetter_c.specs.Documents.Reading.{IsReadBy}
use Rattle.subsetter_c.proofs.DocumentsLaws.Reading.{read_both, read_handed}
use Rattle.subsetter_c.proofs.documents.reading.hand_read_by.Goals as goal

pub returns-in-Some-clause-some : goal.returns-in-Some-clause-some
returns-in-Some-clause-some c =
    rw c.in-Some.is (read_handed (IsReadBy (source_view c.in-Some.source) c.args.text.now) (λ e. e ≡ OutOfMemory) c.read_by.result _ _ c.hand_read.new.told c.hand_read.result (read_both (source_view c.in-Some.source) c.args.text.now c.read_by.result c.read_by.ensures.entries c.read_by.ensures.missing) c.read_by.ensures.err c.hand_read.ensures)
