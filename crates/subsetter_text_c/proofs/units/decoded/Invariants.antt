use Rattle.std.proofs.Common.{◌≡◌, ◌++◌, List, ℕ, None, drop, option_map}
use Rattle.subsetter_text_c.specs.Units.{decoded}
use Rattle.subsetter_text_c.proofs.units.decoded.Given as goal

abbrev pub invariant-loop-unit : goal.invariant-loop-unit
invariant-loop-unit l = option_map (λ (cs : List ℕ). l.characters.items ++ cs) (decoded l.high (drop l.unit-index l.units)) ≡ decoded None l.units
