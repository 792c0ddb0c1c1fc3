use Rattle.std.proofs.Common.{◌≡◌, ◌-◌}
use Rattle.glyph_kinds.specs.Graphics.{graphic_type, has_type}
use Rattle.glyph_kinds.specs.Strikes.{any_from}
use Rattle.glyph_kinds.proofs.graphics.graphic_in_strikes.Given as goal

abbrev pub invariant-loop-strike : goal.invariant-loop-strike
invariant-loop-strike l = any_from (λ k. has_type l.wanted (graphic_type l.sbix l.glyphs k l.glyph)) (l.count - l.strike) l.strike ≡ any_from (λ k. has_type l.wanted (graphic_type l.sbix l.glyphs k l.glyph)) l.count 0
