use Rattle.std.proofs.Common.{◌≡◌, ◌++◌, drop}
use Rattle.std.specs.Option.{option_copied}
use Rattle.std.specs.Prelude.{map}
use Rattle.subsetter.specs.Glyf.Reaching.Closure.{first_byte_in}
use Rattle.subsetter.proofs.glyf.read_first_bytes.Given as goal

abbrev pub invariant-loop-outline : goal.invariant-loop-outline
invariant-loop-outline l = l.first_bytes.items ++ map (λ o. first_byte_in (option_copied o)) (drop l.outline-index l.outlines) ≡ map (λ o. first_byte_in (option_copied o)) l.outlines
