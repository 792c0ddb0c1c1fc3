use Rattle.std.proofs.Common.{◌≡◌, ◌+◌, ◌*◌, ◌≤◌, ◌++◌, ◌<◌, ◌%◌, ◌^◌, take, drop, length, true}
use Rattle.std.specs.Prelude.{vec_capacity}
use Rattle.subsetter_sfnt.specs.Laying.Written.{fits, directory_bytes, body}
use Rattle.subsetter_sfnt.specs.Laying.Checksum.{checksum}
use Rattle.subsetter_sfnt.specs.View.{views}
use Rattle.subsetter_sfnt.proofs.laying.construct.write_tables.Given as goal

abbrev pub invariant-loop-table : goal.invariant-loop-table
invariant-loop-table g l = record {
  written : take l.place l.out.items ++ directory_bytes l.at (views g.T.TableBytes.bytes_of (drop l.table-index l.tables)) ≡ take 12 l.fn.out.items ++ directory_bytes l.start (views g.T.TableBytes.bytes_of l.tables);
  laid : drop l.start l.out.items ++ body (views g.T.TableBytes.bytes_of (drop l.table-index l.tables)) ≡ body (views g.T.TableBytes.bytes_of l.tables);
  places : l.place + 16 * length (drop l.table-index l.tables) ≡ l.start;
  long : l.start ≤ length l.out.items;
  multiple : length l.out.items % 4 ≡ 0;
  room : length l.out.items + length (body (views g.T.TableBytes.bytes_of (drop l.table-index l.tables))) ≤ vec_capacity l.out;
  fit : fits l.at (views g.T.TableBytes.bytes_of (drop l.table-index l.tables)) ≡ true;
  small : l.sum < 2 ^ 32;
  summed : (l.sum + checksum (body (views g.T.TableBytes.bytes_of (drop l.table-index l.tables)))) % 2 ^ 32 ≡ checksum (body (views g.T.TableBytes.bytes_of l.tables));
}
