use Rattle.std.proofs.Common.{◌≡◌, ◌≤◌, ◌+◌, drop}
use Rattle.glyph_kinds.specs.Counts.{count_of}
use Rattle.glyph_kinds.proofs.counts.count_of.Given as goal

abbrev pub invariant-loop-kinds : goal.invariant-loop-kinds
invariant-loop-kinds l = record {
  count : l.count + count_of (drop l.kinds-index l.all) l.kind ≡ count_of l.all l.kind;
  bound : l.count ≤ l.kinds-index;
}
