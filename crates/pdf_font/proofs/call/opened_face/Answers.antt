use Rattle.subsetter_sfnt.specs.FontAt.{font_at}
use Rattle.subsetter_sfnt.specs.Read.{Font}
use Rattle.pdf_font.proofs.Opening.{opened_ok, opened_err}
use Rattle.pdf_font.proofs.call.opened_face.Goals as goal

pub returns-clause-ok : goal.returns-clause-ok
returns-clause-ok c =
    let font : Font = font_at c.args.«data».now c.args.index c.args.extras in
    opened_ok font c.in_ok-check_opening_at.ensures.ok c.parse.result c.parse.ensures.ok

pub returns-clause-err : goal.returns-clause-err
returns-clause-err c =
    let font : Font = font_at c.args.«data».now c.args.index c.args.extras in
    opened_err font c.parse.result c.parse.ensures.err
