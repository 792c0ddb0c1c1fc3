use Rattle.std.proofs.Common.{◌≡◌, ◌≤◌, ◌++◌, true, drop, take, length, map}
use Rattle.std.specs.List.{AllByRecursion}
use Rattle.subsetter_sfnt.specs.Laying.Written.{fits, body, adjusted, IsTable}
use Rattle.subsetter_sfnt.specs.View.{views}
use Rattle.subsetter_sfnt.proofs.laying.construct.adjust.Given as goal

abbrev pub invariant-loop-table : goal.invariant-loop-table
invariant-loop-table g l = record {
  done : take l.at l.out.items ++ body (map (adjusted l.word) (views g.T.TableBytes.bytes_of (drop l.table-index l.tables))) ≡ take l.start l.fn.out.items ++ body (map (adjusted l.word) (views g.T.TableBytes.bytes_of l.tables));
  rest : drop l.at l.out.items ≡ body (views g.T.TableBytes.bytes_of (drop l.table-index l.tables));
  within : l.at ≤ length l.out.items;
  fit : fits l.at (views g.T.TableBytes.bytes_of (drop l.table-index l.tables)) ≡ true;
  tables : AllByRecursion IsTable (views g.T.TableBytes.bytes_of (drop l.table-index l.tables));
}
