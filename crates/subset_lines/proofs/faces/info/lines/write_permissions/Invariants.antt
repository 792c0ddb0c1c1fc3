use Rattle.std.proofs.Common.{drop, map}
use Rattle.subset_lines.specs.Faces.Info.{permission_lines}
use Rattle.plain_text.proofs.Written.{Reaches}
use Rattle.subset_lines.proofs.faces.info.lines.write_permissions.Given as goal

abbrev pub invariant-loop-word : goal.invariant-loop-word
invariant-loop-word g l = Reaches (g.W.Write.contents l.fn.out) (g.W.Write.contents l.out) (permission_lines (map (λ w. w.now) (drop l.word-index l.words))) (permission_lines (map (λ w. w.now) l.words))
