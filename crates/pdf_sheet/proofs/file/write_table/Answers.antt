use Rattle.std.proofs.Common.{◌≡◌, length, rules}
use Rattle.pdf_sheet.proofs.Steps.{table_written}
use Rattle.pdf_sheet.proofs.file.write_table.Goals as goal

pub returns-clause-ok : goal.returns-clause-ok
returns-clause-ok c =
    let start : c.len-start.result ≡ length c.args.text.now.items = search rules in
    table_written c.args.offsets.now c.len-start.result c.args.text.now.items c.write_table_front.new.text.items c.write_rows.new.text.items c.write_trailer.new.text.items
    start c.in_ok-write_table_front.ensures.ok c.in_ok-write_rows.ensures.ok c.in_ok-write_trailer.ensures.ok
