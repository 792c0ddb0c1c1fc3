use Rattle.subsetter_pdf_c.proofs.Steps.{objects_made, objects_refused}
use Rattle.subsetter_pdf_c.proofs.written.write_objects.Goals as goal

pub returns-clause-ok : goal.returns-clause-ok
returns-clause-ok c = objects_made c.args.made.now c.args.cid_to_gid_map.now c.view_of.result c.view_of.ensures c.args.first c.write_objects.result c.write_objects.ensures.text c.write_objects.ensures.offsets c.write_objects.ensures.at

pub returns-clause-err : goal.returns-clause-err
returns-clause-err c = objects_refused c.args.made.now c.args.cid_to_gid_map.now c.view_of.result c.view_of.ensures c.args.first c.write_objects.result c.write_objects.ensures.err
