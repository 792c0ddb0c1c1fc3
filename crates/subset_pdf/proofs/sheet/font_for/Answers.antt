use Rattle.std.proofs.lemmas.Result.{err_from_is_err_and}
use Rattle.subset_pdf.proofs.Sheets.{font_refused}
use Rattle.subset_pdf.proofs.sheet.font_for.Goals as goal

pub returns-in_err-font-clause-err : goal.returns-in_err-font-clause-err
returns-in_err-font-clause-err c =
    let p = err_from_is_err_and c.from_residual.result c.from_residual.ensures.1 in
    rw p.1 (font_refused c.args.data.now c.args.request.now c.args.shown.now c.options_of-options.result c.in_err-font.field-0.0 p.0 c.options_of-options.ensures c.in_err-font.ensures.err p.2)
