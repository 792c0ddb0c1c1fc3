use Rattle.std.proofs.Common.{sym}
use Rattle.subset_lines.specs.Faces.Pictures.{picture_text}
use Rattle.subset_lines.proofs.faces.pictures.write_picture.Goals as goal

pub returns : goal.returns
unfolding picture_text
returns g c = rw (sym c.kind_name-kind.ensures) c.write_pieces.ensures
