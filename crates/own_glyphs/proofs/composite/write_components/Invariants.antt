use Rattle.std.proofs.Common.{◌≡◌, ◌+◌, ◌++◌, drop, length}
use Rattle.std.specs.List.{flat_map}
use Rattle.subsetter.specs.Glyf.Parts.{spelled}
use Rattle.own_glyphs.specs.Composite.{components}
use Rattle.own_glyphs.proofs.composite.write_components.Given as goal

abbrev pub invariant-loop-part : goal.invariant-loop-part
invariant-loop-part l = record {
  written : l.out.items ++ flat_map spelled (components (drop l.part-index l.parts)) ≡ l.fn.out.items ++ flat_map spelled (components l.parts);
  left : l.left + l.part-index ≡ length l.parts;
}
