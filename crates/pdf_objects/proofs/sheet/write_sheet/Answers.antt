use Rattle.pdf_codes.specs.Shown.{texts_of}
use Rattle.pdf_objects.proofs.Steps.{sheet_made, sheet_refused}
use Rattle.pdf_objects.proofs.sheet.write_sheet.Goals as goal

pub returns-clause-ok : goal.returns-clause-ok
returns-clause-ok c =
    sheet_made c.args.view (texts_of c.args.shown.now) c.args.layout c.in_ok-glyphs.glyphs.items c.deref.result.now c.deref.ensures.value c.in_ok-glyphs.ensures.ok
    c.write_sheet.result c.write_sheet.ensures.file c.write_sheet.ensures.at

pub returns-clause-err : goal.returns-clause-err
returns-clause-err c =
    sheet_refused c.args.view (texts_of c.args.shown.now) c.args.layout c.in_ok-glyphs.glyphs.items c.deref.result.now c.deref.ensures.value c.in_ok-glyphs.ensures.ok
    c.write_sheet.result c.write_sheet.ensures.err
