use Rattle.std.proofs.Common.{[]}
use Rattle.std.proofs.lemmas.Result.{err_from_is_err_and}
use Rattle.subset_pdf.proofs.Sheets.{text_refused}
use Rattle.subset_pdf.proofs.sheet.text_for.Goals as goal

pub returns-in_err-text-clause-err : goal.returns-in_err-text-clause-err
returns-in_err-text-clause-err c =
    let p = err_from_is_err_and c.from_residual.result c.from_residual.ensures.1 in
    rw p.1 (text_refused c.args.data.now c.args.request.now [] c.args.line.now c.options_of-options.result c.in_err-text.field-0.0 p.0 c.options_of-options.ensures c.in_err-text.ensures.err p.2)
