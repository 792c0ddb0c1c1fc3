use Rattle.std.proofs.Common.{drop}
use Rattle.subset_lines.specs.Faces.Pictures.{pictures_text}
use Rattle.plain_text.proofs.Written.{Reaches}
use Rattle.subset_lines.proofs.faces.pictures.write_pictures.Given as goal

abbrev pub invariant-loop-picture : goal.invariant-loop-picture
invariant-loop-picture g l = Reaches (g.W.Write.contents l.fn.out) (g.W.Write.contents l.out) (pictures_text l.before l.between l.middle (drop l.picture-index l.pictures)) (pictures_text l.first l.between l.middle l.pictures)
