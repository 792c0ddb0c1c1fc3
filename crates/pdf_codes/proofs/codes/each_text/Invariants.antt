use Rattle.std.proofs.Common.{◌≡◌, ◌≤◌, ◌++◌, length, map, drop, Some}
use Rattle.subsetter_base.specs.Remap.{index_by}
use Rattle.pdf_codes.specs.Codes.{keyed, pairs_of, same, used_of, with_pairs}
use Rattle.pdf_codes.proofs.codes.each_text.Given as goal

abbrev pub invariant-loop-entry : goal.invariant-loop-entry
invariant-loop-entry l = record {
  all : with_pairs (map used_of l.pairs) (map keyed (map used_of (drop l.entry-index l.entries))) ≡ pairs_of (map used_of l.entries);
  few : length l.pairs ≤ 65535;
  so_far : map Some l.codes.items ++ map (index_by same (pairs_of (map used_of l.entries))) (map keyed (map used_of (drop l.entry-index l.entries))) ≡ map (index_by same (pairs_of (map used_of l.entries))) (map keyed (map used_of l.entries));
}
