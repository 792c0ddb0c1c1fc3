use Rattle.std.proofs.Common.{refl, inr}
use Rattle.subsetter_sfnt.specs.Extras.{all_extras}
use Rattle.subsetter_sfnt.specs.FontAt.{font_at}
use Rattle.subsetter_sfnt.specs.Read.{Font}
use Rattle.subsetter_c.specs.Documents.Reading.{refused}
use Rattle.subsetter_c.proofs.DocumentsLaws.Reading.{read_made}
use Rattle.subsetter_c.proofs.documents.reading.subsetter_read_text.Goals as goal

pub returns-in-Ok-clause-read : goal.returns-in-Ok-clause-read
returns-in-Ok-clause-read c = λ yes.
    let font : Font = font_at c.args.font.now c.args.index all_extras in
    read_made font c.in-Ok.ensures.opens c.args.text.now _ _ c.hand_read_by.new.told c.hand_read_by.result c.in-Ok.source c.in-Ok.ensures.ok c.hand_read_by.ensures.none c.hand_read_by.ensures.some

pub returns-in-Err-clause-read : goal.returns-in-Err-clause-read
returns-in-Err-clause-read c = λ yes. inr (refused c.in-Err.error (inr c.in-Err.ensures.err) refl refl c.status_of.ensures)
