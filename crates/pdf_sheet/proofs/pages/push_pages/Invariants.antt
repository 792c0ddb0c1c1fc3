use Rattle.std.proofs.Common.{◌≡◌, ◌+◌, ◌-◌, ◌*◌, ◌++◌}
use Rattle.pdf_sheet.specs.Pages.{page_values, pages_by}
use Rattle.pdf_sheet.specs.View.{texts_view}
use Rattle.pdf_sheet.proofs.pages.push_pages.Given as goal

abbrev pub invariant-loop-page : goal.invariant-loop-page
invariant-loop-page l = texts_view l.values.items ++ page_values l.frame l.font (3 + 2 * l.page) (pages_by (l.count - l.page) l.rest) ≡ texts_view l.fn.values.items ++ page_values l.frame l.font 3 (pages_by l.count l.fn.glyphs)
