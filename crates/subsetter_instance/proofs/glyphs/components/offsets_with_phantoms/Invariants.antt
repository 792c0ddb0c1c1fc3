use Rattle.std.proofs.Common.{◌≡◌, take}
use Rattle.subsetter_instance.specs.Glyphs.Components.{offset_xs, offset_ys}
use Rattle.subsetter_instance.proofs.glyphs.components.offsets_with_phantoms.Given as goal

abbrev pub invariant-loop-component : goal.invariant-loop-component
invariant-loop-component l = record {
  xs : l.xs.items ≡ offset_xs (take l.component-index l.components);
  ys : l.ys.items ≡ offset_ys (take l.component-index l.components);
}
