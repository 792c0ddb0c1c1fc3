use Rattle.std.proofs.Common.{◌≡◌, sym}
use Rattle.std.specs.Cmp.Rules.{signed_items}
use Rattle.subsetter_variation.proofs.GlyphsLaws.SharedTuples.{scalars_same}
use Rattle.subsetter_variation.proofs.glyphs.tuples.Gvar.scalars_at.Goals as goal

pub returns-then-eq : goal.returns-then-eq
returns-then-eq c =
    let same : c.self.inside.location.now ≡ c.args.at.now = (signed_items c.self.inside.location.now c.args.at.now).0 (sym c.if-eq.ensures) in
    scalars_same _ _ _ _ _ c.self.view_is same c.self.invariant
