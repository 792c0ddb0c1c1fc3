use Rattle.pdf_sheet.proofs.Table.{are_in_table}
use Rattle.pdf_sheet.proofs.sheet.objects_are_in_table.Goals as goal

pub returns : goal.returns
returns c = are_in_table
