use Rattle.std.proofs.Common.{inr}
use Rattle.std.proofs.lemmas.Result.{err_from_is_err_and}
use Rattle.pdf_text_font.specs.Drawn.{refused, uncounted}
use Rattle.pdf_text_font.proofs.DrawnSteps.{too_many}
use Rattle.pdf_text_font.proofs.drawn.with_more.Goals as goal

pub returns-in_err-number-clause-err : goal.returns-in_err-number-clause-err
returns-in_err-number-clause-err c =
    let p = err_from_is_err_and c.from_residual.result c.from_residual.ensures.1 in
    rw (p.1, p.2) (inr (uncounted c.in_err-number.ensures.err))

pub returns-in_err-owns-clause-err : goal.returns-in_err-owns-clause-err
returns-in_err-owns-clause-err c =
    let p = err_from_is_err_and c.from_residual-in_err-owns.result c.from_residual-in_err-owns.ensures.1 in
    rw (p.1, p.2) (too_many c.args.file.now c.args.others.now c.args.owns c.in_ok-number.number c.in_err-owns.field-0.0 c.in_ok-number.ensures.ok c.in_err-owns.ensures.err)

pub returns-in_err-program-clause-err : goal.returns-in_err-program-clause-err
returns-in_err-program-clause-err c =
    let p = err_from_is_err_and c.from_residual-in_err-program.result c.from_residual-in_err-program.ensures.1 in
    rw (p.1, p.2) (inr (refused c.in_err-program.ensures.err))
