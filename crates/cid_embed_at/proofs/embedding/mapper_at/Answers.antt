use Rattle.subsetter_sfnt.specs.Extras.{all_extras}
use Rattle.subsetter_sfnt.specs.FontAt.{font_at}
use Rattle.subsetter_variable.specs.DefaultLocation.{IsCff2Font}
use Rattle.subsetter_variable.proofs.Static.{not_so}
use Rattle.cid_embed_at.proofs.AtPlace.{others_unnumbered}
use Rattle.cid_embed_at.proofs.embedding.mapper_at.Goals as goal

pub returns-clause-err : goal.returns-clause-err
returns-clause-err c =
    let other = not_so c.is_cff2_font.result (IsCff2Font (font_at c.args.«data».now c.args.index all_extras)) c.is_cff2_font.ensures c.if-is_cff2_font.false in
    others_unnumbered (font_at c.args.«data».now c.args.index c.args.extras) c.args.glyphs.now other c.mapper_for.result c.mapper_for.ensures.err
