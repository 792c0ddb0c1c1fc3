use Rattle.std.proofs.Common.{◌≡◌, take, map, All}
use Rattle.subsetter_cffdata.specs.Views.{number_of}
use Rattle.subsetter_cff2.specs.PrivateDicts.Blend.{in_parts}
use Rattle.subsetter_cff2.specs.PrivateDicts.Held.{IsHeld}
use Rattle.subsetter_cff2.proofs.private_dicts.stack.fill_parts.Given as goal

abbrev pub invariant-loop-i : goal.invariant-loop-i
invariant-loop-i l = record {
  same : map (λ o. o) (take l.i l.places) ≡ map (λ x. in_parts (number_of x)) (take l.i l.operands);
  held : All IsHeld l.places;
}
