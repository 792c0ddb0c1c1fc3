use Rattle.std.proofs.Common.{◌≡◌, ◌++◌, drop, length}
use Rattle.own_glyphs.specs.Written.{ends_from, further, outlines}
use Rattle.own_glyphs.proofs.adding.add_outlines.Given as goal

abbrev pub invariant-loop-k : goal.invariant-loop-k
invariant-loop-k l = record {
  glyf : l.glyf.items ++ outlines (further (drop l.k l.own) (drop l.k l.boxes)) ≡ l.fn.glyf.items ++ outlines (further l.own l.boxes);
  offsets : l.offsets.items ++ ends_from (length l.glyf.items) (further (drop l.k l.own) (drop l.k l.boxes)) ≡ l.fn.offsets.items ++ ends_from (length l.fn.glyf.items) (further l.own l.boxes);
}
