use Rattle.std.proofs.lemmas.Result.{err_from_is_err_and}
use Rattle.subset_pdf.proofs.Sheets.{no_line_for, no_text_for, no_page_for}
use Rattle.subset_pdf.proofs.sheet.text_sheet.Goals as goal

pub returns-in_err-line-clause-err : goal.returns-in_err-line-clause-err
returns-in_err-line-clause-err c =
    let p = err_from_is_err_and c.from_residual.result c.from_residual.ensures.1 in
    rw p.1 (no_line_for c.args.data.now c.args.request.now c.args.shown.now c.in_err-line.field-0.0 p.0 c.in_err-line.ensures.err p.2)

pub returns-in_err-text-clause-err : goal.returns-in_err-text-clause-err
returns-in_err-text-clause-err c =
    let p = err_from_is_err_and c.from_residual-in_err-text.result c.from_residual-in_err-text.ensures.1 in
    rw (p.1, p.2) (no_text_for c.args.data.now c.args.request.now c.args.shown.now c.in_ok-line.line c.in_err-text.field-0.0 c.in_ok-line.ensures.ok c.in_err-text.ensures.err)

pub returns-in_err-file-clause-err : goal.returns-in_err-file-clause-err
returns-in_err-file-clause-err c =
    let p = err_from_is_err_and c.from_residual-in_err-file.result c.from_residual-in_err-file.ensures.1 in
    rw p.1 (no_page_for c.args.data.now c.args.request.now c.args.shown.now c.in_ok-line.line c.in_ok-text.text c.in_err-file.field-0.0 p.0 c.in_ok-line.ensures.ok c.in_ok-text.ensures.ok c.in_err-file.ensures.err p.2)
