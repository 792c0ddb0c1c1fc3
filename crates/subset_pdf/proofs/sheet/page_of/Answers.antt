use Rattle.std.proofs.Common.{refl}
use Rattle.std.proofs.lemmas.Result.{err_from_is_err_and}
use Rattle.std.specs.Option.{option_copied}
use Rattle.pdf_sheet.specs.declared.lines.SheetLine.{SheetLine}
use Rattle.subset_pdf.proofs.Sheets.{page_made, page_unmade}
use Rattle.subset_pdf.proofs.sheet.page_of.Goals as goal

pub returns-clause-ok : goal.returns-clause-ok
returns-clause-ok c =
    let shown : SheetLine = record { operators = c.deref.result; advance = c.args.line.now.advance } in
    page_made c.args.text.now c.args.line.now c.view_with-view.result shown c.in_ok-file.file.items (option_copied c.map_of.result) c.map_of.ensures c.view_with-view.ensures c.deref.ensures.value refl c.in_ok-file.ensures.file c.in_ok-file.ensures.at

pub returns-in_err-file-clause-err : goal.returns-in_err-file-clause-err
returns-in_err-file-clause-err c =
    let p = err_from_is_err_and c.from_residual.result c.from_residual.ensures.1 in
    let shown : SheetLine = record { operators = c.deref.result; advance = c.args.line.now.advance } in
    rw (p.1, p.2) (page_unmade c.args.text.now c.args.line.now c.view_with-view.result shown c.in_err-file.field-0.0 (option_copied c.map_of.result) c.map_of.ensures c.view_with-view.ensures c.deref.ensures.value refl c.in_err-file.ensures.err)
