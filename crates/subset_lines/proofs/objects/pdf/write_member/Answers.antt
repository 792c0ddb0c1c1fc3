use Rattle.plain_text.proofs.Written.{both, then}
use Rattle.subset_lines.proofs.objects.pdf.write_member.Goals as goal

pub returns : goal.returns
returns g c =
    let written = both _ _ _ _ _ c.in_ok-write_pieces.ensures c.in_ok-write_codes.ensures in
    then c.write_text.result _ _ _ _ _ written c.write_text.ensures
