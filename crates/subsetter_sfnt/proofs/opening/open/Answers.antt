use Rattle.std.proofs.lemmas.Result.{err_from_is_err_and}
use Rattle.subsetter_sfnt.specs.FontAt.{font_at}
use Rattle.subsetter_sfnt.proofs.Laws.Opening.{is_font, is_opened, is_refused, not_opened}
use Rattle.subsetter_sfnt.proofs.opening.open.Goals as goal

pub returns-in_err-face-clause-err : goal.returns-in_err-face-clause-err
returns-in_err-face-clause-err c =
    let p = err_from_is_err_and c.from_residual.result c.from_residual.ensures.1 in
    rw (p.1, p.2) (not_opened (font_at c.args.«data».now c.args.index c.args.extras) c.in_err-face.field-0.0 c.in_err-face.ensures.err)

pub returns-in_err-outlines-clause-err : goal.returns-in_err-outlines-clause-err
returns-in_err-outlines-clause-err c =
    let p = err_from_is_err_and c.from_residual-in_err-outlines.result c.from_residual-in_err-outlines.ensures.1 in
    let read = c.in_ok-face.ensures.ok in
    rw (p.1, p.2) (is_refused c.args.«data».now c.args.index c.args.extras c.in_ok-face.face read.0 read.1 c.in_err-outlines.field-0.0 c.in_err-outlines.ensures)

pub returns-clause-ok : goal.returns-clause-ok
returns-clause-ok c =
    let read = c.in_ok-face.ensures.ok in
    is_opened c.args.«data».now c.args.index c.args.extras c.in_ok-face.face read.0 read.1 c.in_ok-outlines.outlines c.in_ok-face.ensures.extras c.parse.ensures.bytes c.in_ok-outlines.ensures

pub returns-clause-font : goal.returns-clause-font
returns-clause-font c =
    let read = c.in_ok-face.ensures.ok in
    is_font c.args.«data».now c.args.index c.args.extras c.in_ok-face.face read.0 read.1 c.in_ok-face.ensures.extras
