use Rattle.std.proofs.Common.{drop, map}
use Rattle.plain_text.specs.Characters.{shown}
use Rattle.plain_text.specs.Quoted.{escaped}
use Rattle.plain_text.proofs.Written.{Reaches}
use Rattle.plain_text.proofs.quoted.write_shown_bytes.Given as goal

abbrev pub invariant-loop-byte : goal.invariant-loop-byte
invariant-loop-byte g l = Reaches (g.W.Write.contents l.fn.out) (g.W.Write.contents l.out) (escaped (map shown (drop l.byte-index l.text))) (escaped (map shown l.text))
