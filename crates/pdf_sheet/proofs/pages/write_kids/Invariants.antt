use Rattle.std.proofs.Common.{◌≡◌, ◌+◌, ◌-◌, ◌*◌, ◌++◌}
use Rattle.pdf_sheet.specs.Pages.{kids}
use Rattle.pdf_sheet.proofs.pages.write_kids.Given as goal

abbrev pub invariant-loop-page : goal.invariant-loop-page
invariant-loop-page l = l.text.items ++ kids (3 + 2 * l.page) (l.count - l.page) ≡ l.fn.text.items ++ kids 3 l.count
