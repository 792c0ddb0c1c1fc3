use Rattle.std.proofs.Common.{◌≡◌, ◌+◌, ◌++◌, ◌≤◌, length, drop}
use Rattle.std.specs.Prelude.{vec_capacity}
use Rattle.subsetter.specs.Glyf.Written.{glyf_bytes}
use Rattle.subsetter_sfnt.specs.Laying.Weights.{IsSummed}
use Rattle.subsetter.proofs.glyf.outlines.write_outlines.Given as goal

abbrev pub invariant-loop-outline : goal.invariant-loop-outline
invariant-loop-outline l = record {
  written : l.out.items ++ glyf_bytes l.long l.outline-iterator ≡ l.fn.out.items ++ glyf_bytes l.long l.outlines.items;
  room : length l.out.items + length (glyf_bytes l.long l.outline-iterator) ≤ vec_capacity l.out;
  capacity : vec_capacity l.fn.out ≤ vec_capacity l.out;
  start : l.start ≡ length l.fn.out.items;
  following : l.start ≤ length l.out.items;
  summed : IsSummed (drop l.start l.out.items) l.sum.value l.sum.done;
}
