use Rattle.std.proofs.Common.{◌≡◌, ◌≤◌, ◌*◌, ◌^◌, ◌++◌, take, drop, map, unsigned_abs}
use Rattle.subsetter_cffdata.specs.Numerals.Numbers.{Integer}
use Rattle.subsetter_cffdata.specs.Views.{number_of}
use Rattle.subsetter_cff2.specs.PrivateDicts.Blend.{edges_from, edges}
use Rattle.subsetter_cff2.specs.PrivateDicts.PrivateAt.{known}
use Rattle.subsetter_cff2.proofs.private_dicts.placing.place_edges.Given as goal

abbrev pub invariant-loop-i : goal.invariant-loop-i
invariant-loop-i l = record {
  same : map number_of (take l.i l.numbers) ++ map Integer (edges_from l.sum (map known (drop l.i l.parts))) ≡ map Integer (edges (map known l.parts));
  bound : unsigned_abs l.sum ≤ l.i * 2 ^ 45;
}
