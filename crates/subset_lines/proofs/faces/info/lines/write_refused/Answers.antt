use Rattle.plain_text.proofs.Written.{then}
use Rattle.subset_lines.proofs.faces.info.lines.write_refused.Goals as goal

pub returns : goal.returns
returns g c = then c.write_reason.result _ _ _ _ _ c.in_ok-write_pieces.ensures c.write_reason.ensures
