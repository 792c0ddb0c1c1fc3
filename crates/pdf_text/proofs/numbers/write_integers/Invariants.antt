use Rattle.std.proofs.Common.{◌≡◌, ◌++◌, map, drop}
use Rattle.std.specs.Fmt.{signed_decimal}
use Rattle.pdf_text.specs.Numbers.{integers}
use Rattle.subsetter_base.proofs.TextLemmas.{spaced}
use Rattle.pdf_text.proofs.numbers.write_integers.Given as goal

abbrev pub invariant-loop-z : goal.invariant-loop-z
invariant-loop-z l = l.text.items ++ spaced (map signed_decimal (drop l.z-index l.rest)) ≡ l.fn.text.items ++ integers l.fn.numbers
