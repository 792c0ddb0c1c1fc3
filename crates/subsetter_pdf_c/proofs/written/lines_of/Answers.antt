use Rattle.subsetter_pdf_c.proofs.Steps.{lines_made, lines_refused}
use Rattle.subsetter_pdf_c.proofs.written.lines_of.Goals as goal

pub returns-clause-ok : goal.returns-clause-ok
returns-clause-ok c = lines_made c.args.made.now c.args.cid_to_gid_map.now c.view_of.result c.view_of.ensures c.args.lines.now c.write_lines.result c.write_lines.ensures.file c.write_lines.ensures.at

pub returns-clause-err : goal.returns-clause-err
returns-clause-err c = lines_refused c.args.made.now c.args.cid_to_gid_map.now c.view_of.result c.view_of.ensures c.args.lines.now c.write_lines.result c.write_lines.ensures.err
