use Rattle.std.proofs.Common.{sym}
use Rattle.subset_lines.proofs.faces.outlines.write_outlines_members.Goals as goal

pub returns : goal.returns
returns g c = rw (sym c.outlines_name.ensures, sym c.variable_member.ensures) c.write_pieces.ensures
