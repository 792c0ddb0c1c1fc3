use Rattle.std.proofs.Common.{Vec, ℕ, Global}
use Rattle.subsetter_sfnt.specs.Extras.{all_extras}
use Rattle.subsetter_sfnt.specs.FontAt.{font_at}
use Rattle.subsetter_variable.specs.DefaultLocation.{IsCff2Font}
use Rattle.subsetter_variable.proofs.Static.{glyf_ok, glyf_clean, glyf_err, not_so}
use Rattle.subsetter_variable.proofs.default_location.static_font.Goals as goal

pub returns-clause-ok : goal.returns-clause-ok
returns-clause-ok c =
    let font = font_at c.args.«data».now c.args.index all_extras in
    let other = not_so c.is_cff2_font.result (IsCff2Font font) c.is_cff2_font.ensures c.if-is_cff2_font.false in
    glyf_ok font c.args.coordinates.now c.args.mapper.now c.args.limits.now.tokens c.args.limits.now.depth {X = Vec ℕ Global} (λ v. v.items) other c.moved_instance.result c.moved_instance.ensures.ok

pub returns-clause-clean : goal.returns-clause-clean
returns-clause-clean c =
    let font = font_at c.args.«data».now c.args.index all_extras in
    let other = not_so c.is_cff2_font.result (IsCff2Font font) c.is_cff2_font.ensures c.if-is_cff2_font.false in
    glyf_clean font c.args.coordinates.now c.args.mapper.now c.args.limits.now.tokens c.args.limits.now.depth {X = Vec ℕ Global} (λ v. v.items) c.tokens-steps.result c.tokens-steps.ensures other c.moved_instance.result c.moved_instance.ensures.ok c.moved_instance.ensures.clean

pub returns-clause-err : goal.returns-clause-err
returns-clause-err c =
    glyf_err (font_at c.args.«data».now c.args.index all_extras) c.args.coordinates.now c.args.mapper.now c.args.limits.now.tokens c.args.limits.now.depth c.tokens-steps.result c.tokens-steps.ensures c.moved_instance.result c.moved_instance.ensures.err
