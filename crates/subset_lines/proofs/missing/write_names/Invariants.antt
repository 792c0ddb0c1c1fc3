use Rattle.std.proofs.Common.{drop, []}
use Rattle.subset_lines.specs.Missing.{names_text}
use Rattle.plain_text.proofs.Written.{Reaches}
use Rattle.subset_lines.proofs.missing.write_names.Given as goal

abbrev pub invariant-loop-character : goal.invariant-loop-character
invariant-loop-character g l = Reaches (g.W.Write.contents l.fn.out) (g.W.Write.contents l.out) (names_text l.before (drop l.character-index l.characters)) (names_text [] l.characters)
