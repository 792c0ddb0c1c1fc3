use Rattle.std.proofs.Common.{◌≡◌, ◌++◌, length, ap, ◌∙◌}
use Rattle.pdf_sheet.specs.Pages.{font_number, font_values, page_count, sheet_values}
use Rattle.pdf_sheet.specs.View.{texts_view}
use Rattle.pdf_sheet.proofs.Steps.{named_fault, named_file, named_table, sheet_first, sheet_whole}
use Rattle.pdf_sheet.proofs.sheet.write_sheet.Goals as goal

pub file_with-requires : goal.file_with-requires
file_with-requires c =
    sheet_first c.args.layout c.args.glyphs.now c.frame_for-frame.result c.deref.result.now c.in_ok-first.first
    (ap texts_view c.deref.ensures.value ∙ c.in_ok-front.ensures.ok) (c.in_ok-first.ensures.ok ∙ ap (λ n. font_number n) c.page_count.ensures.value)

pub returns-clause-file : goal.returns-clause-file
returns-clause-file c =
    named_file c.file_with.result (texts_view c.deref.result.now ++ font_values c.in_ok-first.first c.args.values) (sheet_values c.args.layout c.args.values c.args.glyphs.now)
    (sheet_whole c.args.layout c.args.values c.args.glyphs.now c.frame_for-frame.result (texts_view c.deref.result.now) c.in_ok-first.first
    c.frame_for-frame.ensures (ap texts_view c.deref.ensures.value ∙ c.in_ok-front.ensures.ok) (c.in_ok-first.ensures.ok ∙ ap (λ n. font_number n) c.page_count.ensures.value))
    c.file_with.ensures.file

pub returns-clause-at : goal.returns-clause-at
returns-clause-at c =
    named_table c.file_with.result (texts_view c.deref.result.now ++ font_values c.in_ok-first.first c.args.values) (sheet_values c.args.layout c.args.values c.args.glyphs.now)
    (sheet_whole c.args.layout c.args.values c.args.glyphs.now c.frame_for-frame.result (texts_view c.deref.result.now) c.in_ok-first.first
    c.frame_for-frame.ensures (ap texts_view c.deref.ensures.value ∙ c.in_ok-front.ensures.ok) (c.in_ok-first.ensures.ok ∙ ap (λ n. font_number n) c.page_count.ensures.value))
    c.file_with.ensures.at

pub returns-clause-err : goal.returns-clause-err
returns-clause-err c =
    named_fault c.file_with.result c.args.values c.in_ok-first.first (font_number (page_count c.args.layout (length c.args.glyphs.now)))
    (texts_view c.deref.result.now ++ font_values c.in_ok-first.first c.args.values) (sheet_values c.args.layout c.args.values c.args.glyphs.now)
    (c.in_ok-first.ensures.ok ∙ ap (λ n. font_number n) c.page_count.ensures.value)
    (sheet_whole c.args.layout c.args.values c.args.glyphs.now c.frame_for-frame.result (texts_view c.deref.result.now) c.in_ok-first.first
    c.frame_for-frame.ensures (ap texts_view c.deref.ensures.value ∙ c.in_ok-front.ensures.ok) (c.in_ok-first.ensures.ok ∙ ap (λ n. font_number n) c.page_count.ensures.value))
    c.file_with.ensures.err
