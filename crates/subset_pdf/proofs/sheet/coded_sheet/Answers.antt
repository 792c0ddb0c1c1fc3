use Rattle.subset_pdf.proofs.Sheets.{no_sheet_by}
use Rattle.subset_pdf.proofs.sheet.coded_sheet.Goals as goal

pub returns-clause-err : goal.returns-clause-err
returns-clause-err c = no_sheet_by c.args.data.now c.args.request.now c.args.shown.now c.in_ok-font.font c.drawn.result c.in_ok-font.ensures.ok c.drawn.ensures.err
