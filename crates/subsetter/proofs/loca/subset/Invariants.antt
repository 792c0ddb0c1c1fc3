use Rattle.std.proofs.Common.{◌≡◌, ◌+◌, ◌++◌, length}
use Rattle.subsetter.specs.Glyf.Written.{glyf_bytes, loca_bytes}
use Rattle.subsetter.proofs.loca.subset.Given as goal

abbrev pub invariant-loop-outline : goal.invariant-loop-outline
invariant-loop-outline l = record {
  written : l.loca.items ++ loca_bytes l.long l.offset l.outline-iterator ≡ loca_bytes l.long 0 l.outlines.items;
  rest : l.offset + length (glyf_bytes l.long l.outline-iterator) ≡ length (glyf_bytes l.long l.outlines.items);
}
