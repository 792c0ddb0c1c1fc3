use Rattle.plain_text.proofs.Written.{both, then}
use Rattle.subset_lines.proofs.faces.sizes.write_tables_member.Goals as goal

pub returns : goal.returns
returns g c =
    let objects = both _ _ _ _ _ c.in_ok-write_text.ensures c.in_ok-write_objects.ensures in
    then c.write_text-2.result _ _ _ _ _ objects c.write_text-2.ensures
