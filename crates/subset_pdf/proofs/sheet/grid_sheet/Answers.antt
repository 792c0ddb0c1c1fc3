use Rattle.subset_pdf.proofs.Sheets.{grid_by, is_fault}
use Rattle.subset_pdf.proofs.sheet.grid_sheet.Goals as goal

pub returns-in_ok-unless_memory-in-Err-clause-ok :
    goal.returns-in_ok-unless_memory-in-Err-clause-ok
returns-in_ok-unless_memory-in-Err-clause-ok c =
    let why = c.in-Err.error in
    let fault = is_fault c.args.data.now c.args.request.now c.args.shown.now why c.in_ok-unless_memory-in-Err.ensures.ok c.in-Err.ensures.err in
    grid_by c.args.data.now c.args.request.now c.args.shown.now why c.coded_sheet-in-Err.result fault c.coded_sheet-in-Err.ensures.ok
