use Rattle.std.proofs.Common.{◌≡◌, ◌++◌, length, ◌∙◌, rules}
use Rattle.pdf_sheet.specs.File.{file_of}
use Rattle.pdf_sheet.specs.Pages.{font_values}
use Rattle.pdf_sheet.specs.View.{texts_view}
use Rattle.pdf_sheet.proofs.Table.{file_written, file_in_table}
use Rattle.pdf_sheet.proofs.sheet.file_with.Goals as goal

pub returns-clause-file : goal.returns-clause-file
returns-clause-file c =
    file_written (texts_view c.args.front.now ++ font_values c.args.first c.args.values) c.in_ok-body.body.text.items c.deref.result.now c.write_table.new.text.items
    c.in_ok-body.ensures.text (c.deref.ensures.value ∙ c.in_ok-body.ensures.offsets) c.in_ok-write_table.ensures.ok

pub returns-clause-at : goal.returns-clause-at
returns-clause-at c =
    let values = texts_view c.args.front.now ++ font_values c.args.first c.args.values in
    let size : c.len.result ≡ length c.in_ok-body.body.text.items = search rules in
    let file : c.write_table.new.text.items ≡ file_of values =
    file_written values c.in_ok-body.body.text.items c.deref.result.now c.write_table.new.text.items
    c.in_ok-body.ensures.text (c.deref.ensures.value ∙ c.in_ok-body.ensures.offsets) c.in_ok-write_table.ensures.ok in
    file_in_table values c.in_ok-body.body.text.items c.write_table.new.text.items c.len.result c.in_ok-body.ensures.text size c.in_ok-checked.ensures.ok file
