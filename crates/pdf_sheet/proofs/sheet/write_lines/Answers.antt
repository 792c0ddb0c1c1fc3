use Rattle.std.proofs.Common.{◌≡◌, ◌++◌, length, ap, ◌∙◌}
use Rattle.std.specs.Prelude.{is_some}
use Rattle.pdf_sheet.specs.Lines.{lines_values}
use Rattle.pdf_sheet.specs.Pages.{font_number, font_values}
use Rattle.pdf_sheet.specs.View.{texts_view}
use Rattle.pdf_sheet.proofs.Steps.{lines_first, lines_whole, named_fault, named_file, named_table}
use Rattle.pdf_sheet.proofs.sheet.write_lines.Goals as goal

pub file_with-requires : goal.file_with-requires
file_with-requires c =
    lines_first (is_some c.args.values.columns) c.args.lines.now c.deref.result.now c.in_ok-first.first
    (ap texts_view c.deref.ensures.value ∙ c.in_ok-front.ensures.ok) c.in_ok-first.ensures.ok

pub returns-clause-file : goal.returns-clause-file
returns-clause-file c =
    named_file c.file_with.result (texts_view c.deref.result.now ++ font_values c.in_ok-first.first c.args.values) (lines_values c.args.values c.args.lines.now)
    (lines_whole c.args.values c.args.lines.now (texts_view c.deref.result.now) c.in_ok-first.first (ap texts_view c.deref.ensures.value ∙ c.in_ok-front.ensures.ok) c.in_ok-first.ensures.ok)
    c.file_with.ensures.file

pub returns-clause-at : goal.returns-clause-at
returns-clause-at c =
    named_table c.file_with.result (texts_view c.deref.result.now ++ font_values c.in_ok-first.first c.args.values) (lines_values c.args.values c.args.lines.now)
    (lines_whole c.args.values c.args.lines.now (texts_view c.deref.result.now) c.in_ok-first.first (ap texts_view c.deref.ensures.value ∙ c.in_ok-front.ensures.ok) c.in_ok-first.ensures.ok)
    c.file_with.ensures.at

pub returns-clause-err : goal.returns-clause-err
returns-clause-err c =
    named_fault c.file_with.result c.args.values c.in_ok-first.first (font_number (length c.args.lines.now))
    (texts_view c.deref.result.now ++ font_values c.in_ok-first.first c.args.values) (lines_values c.args.values c.args.lines.now)
    c.in_ok-first.ensures.ok
    (lines_whole c.args.values c.args.lines.now (texts_view c.deref.result.now) c.in_ok-first.first (ap texts_view c.deref.ensures.value ∙ c.in_ok-front.ensures.ok) c.in_ok-first.ensures.ok)
    c.file_with.ensures.err
