use Rattle.std.proofs.Common.{Option, None, sym, ap, ◌∙◌}
use Rattle.subsetter_instance.specs.declared.tables.extremes.Extents.{Extents}
use Rattle.subsetter_instance.specs.Tables.Extremes.{joined}
use Rattle.subsetter_cff_instance.specs.Boxes.{glyph_extents}
use Rattle.subsetter_cff_instance.proofs.MetricsLaws.{folded_more}
use Rattle.subsetter_cff_instance.proofs.boxes.all_extents.Goals as goal

pub loop-glyph-preserved : goal.loop-glyph-preserved
loop-glyph-preserved c =
    let one = glyph_extents c.args.all.now c.args.boxes.now in
    c.joined-extents.ensures ∙ ap (joined c.loop-glyph.extents) c.glyph_extents.ensures ∙ ap (λ (e : Option Extents). joined e (one c.loop-glyph.glyph)) c.loop-glyph.invariant ∙ sym (folded_more joined None one c.loop-glyph.glyph)
