use Rattle.std.proofs.Common.{drop, map, []}
use Rattle.subset_lines.specs.Faces.Info.{strings}
use Rattle.plain_text.proofs.Written.{Reaches}
use Rattle.subset_lines.proofs.faces.info.json.write_strings.Given as goal

abbrev pub invariant-loop-word : goal.invariant-loop-word
invariant-loop-word g l = Reaches (g.W.Write.contents l.fn.out) (g.W.Write.contents l.out) (strings l.before (map (λ w. w.now) (drop l.word-index l.words))) (strings [] (map (λ w. w.now) l.words))
