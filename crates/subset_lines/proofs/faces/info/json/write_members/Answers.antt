use Rattle.plain_text.proofs.Written.{both, then}
use Rattle.subset_lines.proofs.faces.info.json.write_members.Goals as goal

pub returns : goal.returns
returns g c =
    let counts = both _ _ _ _ _ c.in_ok-write_outlines_members.ensures c.in_ok-write_counts.ensures in
    let pictures = both _ _ _ _ _ counts c.in_ok-write_pictures_member.ensures in
    let refusal = both _ _ _ _ _ pictures c.in_ok-write_refusal.ensures in
    let opened = both _ _ _ _ _ refusal c.in_ok-write_text.ensures in
    let tables = both _ _ _ _ _ opened c.in_ok-write_objects.ensures in
    then c.write_text-2.result _ _ _ _ _ tables c.write_text-2.ensures
