use Rattle.std.proofs.Common.{◌≡◌, drop, length, map}
use Rattle.std.specs.Prelude.{max}
use Rattle.std.specs.List.{fold}
use Rattle.own_glyphs.specs.declared.glyph.OwnGlyph.{OwnGlyph}
use Rattle.own_glyphs.specs.Profile.{most_parts}
use Rattle.own_glyphs.proofs.profile.most_parts.Given as goal

abbrev pub invariant-loop-glyph : goal.invariant-loop-glyph
invariant-loop-glyph l = fold max l.most (map (λ (o : OwnGlyph). length o.parts.now) (drop l.glyph-index l.own)) ≡ most_parts l.own
