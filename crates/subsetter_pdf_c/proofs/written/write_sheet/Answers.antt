use Rattle.pdf_codes.specs.Shown.{texts_of}
use Rattle.subsetter_pdf_c.proofs.Steps.{sheet_made, sheet_refused}
use Rattle.subsetter_pdf_c.proofs.written.write_sheet.Goals as goal

pub returns-clause-ok : goal.returns-clause-ok
returns-clause-ok c = sheet_made c.args.made.now c.view_of.result c.view_of.ensures (texts_of c.args.shown.now) c.args.layout c.write_sheet.result c.write_sheet.ensures.ok

pub returns-clause-err : goal.returns-clause-err
returns-clause-err c = sheet_refused c.args.made.now c.view_of.result c.view_of.ensures (texts_of c.args.shown.now) c.args.layout c.write_sheet.result c.write_sheet.ensures.err
