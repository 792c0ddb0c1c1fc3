use Rattle.std.proofs.Common.{◌≡◌, drop}
use Rattle.font_reasons.specs.Outlines.{by_components}
use Rattle.font_reasons.proofs.outlines.by_components.Given as goal

abbrev pub invariant-loop-component : goal.invariant-loop-component
invariant-loop-component l = by_components l.glyf l.loca l.format l.glyph (drop l.component-index l.components) ≡ by_components l.glyf l.loca l.format l.glyph l.components
