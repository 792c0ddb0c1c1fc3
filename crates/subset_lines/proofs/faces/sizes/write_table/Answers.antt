use Rattle.std.proofs.Common.{sym}
use Rattle.subset_lines.specs.Faces.Sizes.{table_line}
use Rattle.subset_lines.proofs.faces.sizes.write_table.Goals as goal

pub returns : goal.returns
unfolding table_line
returns g c = rw (sym c.tag_bytes.ensures, sym c.size_or.ensures, sym c.size_or-2.ensures) c.write_pieces.ensures
