use Rattle.subsetter_sfnt.specs.Extras.{all_extras}
use Rattle.subsetter_sfnt.specs.FontAt.{font_at}
use Rattle.subsetter_sfnt.specs.Read.{Font}
use Rattle.subsetter_variable.specs.DefaultLocation.{IsCff2Font}
use Rattle.subsetter_variable.proofs.Static.{cff2_opens, others_open, others_closed, not_so}
use Rattle.subsetter_variable.proofs.subsetting.check_opening_at.Goals as goal

pub returns-then-is_cff2_font-clause-ok : goal.returns-then-is_cff2_font-clause-ok
returns-then-is_cff2_font-clause-ok c = λ e f. cff2_opens (font_at c.args.«data».now c.args.index c.args.extras) e (c.is_cff2_font.ensures.0 c.if-is_cff2_font.true) f

pub returns-clause-ok : goal.returns-clause-ok
returns-clause-ok c =
    let font : Font = font_at c.args.«data».now c.args.index c.args.extras in
    let other = not_so c.is_cff2_font.result (IsCff2Font (font_at c.args.«data».now c.args.index all_extras)) c.is_cff2_font.ensures c.if-is_cff2_font.false in
    others_open font other c.check_opening.result c.check_opening.ensures.ok

pub returns-clause-err : goal.returns-clause-err
returns-clause-err c =
    let font : Font = font_at c.args.«data».now c.args.index c.args.extras in
    let other = not_so c.is_cff2_font.result (IsCff2Font (font_at c.args.«data».now c.args.index all_extras)) c.is_cff2_font.ensures c.if-is_cff2_font.false in
    others_closed font other c.check_opening.result c.check_opening.ensures.err
