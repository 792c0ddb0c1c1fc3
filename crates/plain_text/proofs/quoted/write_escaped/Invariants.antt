use Rattle.std.proofs.Common.{drop}
use Rattle.plain_text.specs.Quoted.{escaped}
use Rattle.plain_text.proofs.Written.{Reaches}
use Rattle.plain_text.proofs.quoted.write_escaped.Given as goal

abbrev pub invariant-loop-byte : goal.invariant-loop-byte
invariant-loop-byte g l = Reaches (g.W.Write.contents l.fn.out) (g.W.Write.contents l.out) (escaped (drop l.byte-index l.text)) (escaped l.text)
