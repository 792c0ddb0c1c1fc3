use Rattle.std.proofs.Common.{◌≡◌, ◌-◌}
use Rattle.glyph_kinds.specs.Bitmaps.{has_format, image_format}
use Rattle.glyph_kinds.specs.Strikes.{any_from}
use Rattle.glyph_kinds.proofs.bitmaps.image_in_strikes.Given as goal

abbrev pub invariant-loop-strike : goal.invariant-loop-strike
invariant-loop-strike l = any_from (λ k. has_format l.wanted (image_format l.table k l.glyph)) (l.count - l.strike) l.strike ≡ any_from (λ k. has_format l.wanted (image_format l.table k l.glyph)) l.count 0
