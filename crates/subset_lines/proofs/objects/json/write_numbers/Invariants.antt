use Rattle.std.proofs.Common.{drop, []}
use Rattle.subset_lines.specs.Objects.Json.{numbers_from}
use Rattle.plain_text.proofs.Written.{Reaches}
use Rattle.subset_lines.proofs.objects.json.write_numbers.Given as goal

abbrev pub invariant-loop-number : goal.invariant-loop-number
invariant-loop-number g l = Reaches (g.W.Write.contents l.fn.out) (g.W.Write.contents l.out) (numbers_from l.before (drop l.number-index l.numbers)) (numbers_from [] l.numbers)
