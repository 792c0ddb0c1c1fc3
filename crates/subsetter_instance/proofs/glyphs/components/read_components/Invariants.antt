use Rattle.std.proofs.Common.{◌≡◌, ◌-◌, length}
use Rattle.subsetter_instance.specs.Glyphs.Components.{components_at}
use Rattle.subsetter_instance.proofs.GlyphsLaws.Chains.{following}
use Rattle.subsetter_instance.proofs.glyphs.components.read_components.Given as goal

abbrev pub invariant-loop-read : goal.invariant-loop-read
invariant-loop-read l = record {
  all : following l.components.items (components_at (l.steps - l.read) l.rest) ≡ components_at l.steps l.bytes;
  count : length l.components.items ≡ l.read;
}
