use Rattle.std.proofs.Common.{◌≡◌, ◌+◌, ◌≤◌, ◌^◌, drop, length}
use Rattle.subsetter_sfnt.specs.Laying.Written.{fits, body, start_of}
use Rattle.subsetter_sfnt.specs.View.{views}
use Rattle.subsetter_sfnt.proofs.laying.construct.file_size.Given as goal

abbrev pub invariant-loop-table : goal.invariant-loop-table
invariant-loop-table g l = record {
  rest : fits l.at (views g.T.TableBytes.bytes_of (drop l.table-index l.tables)) ≡ fits (start_of (views g.T.TableBytes.bytes_of l.tables)) (views g.T.TableBytes.bytes_of l.tables);
  size : l.at + length (body (views g.T.TableBytes.bytes_of (drop l.table-index l.tables))) ≡ start_of (views g.T.TableBytes.bytes_of l.tables) + length (body (views g.T.TableBytes.bytes_of l.tables));
  small : l.at ≤ 2 ^ 34;
}
