use Rattle.std.proofs.Common.{sym}
use Rattle.subset_lines.specs.Faces.Info.{permission_line}
use Rattle.subset_lines.proofs.faces.info.lines.write_permission.Goals as goal

pub returns : goal.returns
unfolding permission_line
returns g c = rw (sym c.as_bytes.ensures.value) c.write_pieces.ensures
