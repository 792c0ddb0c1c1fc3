use Rattle.std.proofs.Common.{◌≡◌, ◌≤◌, ◌^◌, ◌++◌, map, drop, length, unsigned_abs}
use Rattle.std.specs.Prelude.{All, zip}
use Rattle.subsetter_instance.specs.Glyphs.Unfolded.{transformed_x}
use Rattle.subsetter_instance.proofs.glyphs.placing.transformed_column.Given as goal

abbrev pub invariant-loop-i : goal.invariant-loop-i
invariant-loop-i l = record {
  len : length l.all.items ≡ l.i;
  value : l.all.items ++ map (transformed_x l.m) (zip (drop l.i l.xs) (drop l.i l.ys)) ≡ map (transformed_x l.m) (zip l.xs l.ys);
  bound : All (λ z. unsigned_abs z ≤ 2 ^ 47) l.all.items;
}
