use Rattle.std.proofs.Common.{arith, Option, ℤ, None}
use Rattle.std.proofs.lemmas.List.{length-replicate}
use Rattle.std.proofs.lemmas.List.Elements.{All-replicate}
use Rattle.subsetter_cff2.specs.PrivateDicts.Held.{IsHeld}
use Rattle.subsetter_cff2.proofs.private_dicts.stack.PrivateStack.new.Goals as goal

abbrev none : Option ℤ
none = None

pub invariant_of-result : goal.invariant_of-result
invariant_of-result c = record {
  room = omega (arith, c.in_ok-vec.ensures.len);
  room_of_parts = length-replicate 513 none;
  few = omega arith;
  held = All-replicate IsHeld 513 none tt;
}
