use Rattle.std.proofs.Common.{sym}
use Rattle.subset_lines.specs.Faces.Sizes.{table_object}
use Rattle.subset_lines.proofs.faces.sizes.write_object.Goals as goal

pub returns : goal.returns
unfolding table_object
returns g c = rw (sym c.get.ensures, sym c.size_or.ensures, sym c.size_or-2.ensures) c.write_pieces.ensures
