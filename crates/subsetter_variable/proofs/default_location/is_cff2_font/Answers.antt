use Rattle.std.proofs.Common.{Bool, subst, sym, ◌∙◌}
use Rattle.std.specs.Prelude.{codes, IsTrue, ◌↔◌}
use Rattle.subsetter_sfnt.specs.Extras.{all_extras}
use Rattle.subsetter_sfnt.specs.FontAt.{font_at}
use Rattle.subsetter_variable.specs.DefaultLocation.{IsCff2Font}
use Rattle.subsetter_variable.proofs.Stands.{by_found, found_is, unopened_cff2}
use Rattle.subsetter_variable.proofs.default_location.is_cff2_font.Goals as goal

pub returns-in_default : goal.returns-in_default
returns-in_default c = unopened_cff2 (font_at c.args.«data».now c.args.index all_extras) c.in_default.field-0 c.in_default.ensures.err

pub returns : goal.returns
returns c =
    let font = font_at c.args.«data».now c.args.index all_extras in
    let face = c.in-Ok.face in
    let glyf = c.is_some-has_glyf.ensures ∙ found_is font face.records.now face.«data».now (codes "glyf") c.in-Ok.ensures.ok.1 c.in-Ok.ensures.ok.0 c.stored.result c.stored.ensures in
    let cff = c.is_some-has_cff.ensures ∙ found_is font face.records.now face.«data».now (codes "CFF ") c.in-Ok.ensures.ok.1 c.in-Ok.ensures.ok.0 c.stored-2.result c.stored-2.ensures in
    let cff2 = c.is_some-has_cff2.ensures ∙ found_is font face.records.now face.«data».now (codes "CFF2") c.in-Ok.ensures.ok.1 c.in-Ok.ensures.ok.0 c.stored-3.result c.stored-3.ensures in
    subst (λ (b : Bool). IsTrue b ↔ IsCff2Font font) (sym c.is_cff2_alone.ensures) (by_found font c.is_some-has_glyf.result c.is_some-has_cff.result c.is_some-has_cff2.result glyf cff cff2)
