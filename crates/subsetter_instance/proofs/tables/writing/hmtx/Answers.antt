use Rattle.std.proofs.Common.{get_or, refl, ap, ◌∙◌, arith}
use Rattle.subsetter_sfnt.specs.Fields.Hmtx.{metric_bytes}
use Rattle.subsetter_instance.specs.Tables.Written.{drawn_metric}
use Rattle.subsetter_instance.proofs.TablesLaws.RequestedLemmas.{hmtx_start, hmtx_more, hmtx_end}
use Rattle.subsetter_instance.proofs.tables.writing.hmtx.Goals as goal

pub loop-glyph-init : goal.loop-glyph-init
loop-glyph-init c = hmtx_start c.args.mapper.now c.args.drawn.now c.args.count c.args.order.now c.in_ok-hmtx.hmtx.items c.in_ok-hmtx.ensures.items c.requires

pub loop-glyph-preserved : goal.loop-glyph-preserved
loop-glyph-preserved c =
    hmtx_more c.args.mapper.now c.args.drawn.now c.args.count (get_or c.args.order.now c.loop-glyph.glyph-index 0) c.loop-glyph.glyph-index c.args.order.now c.loop-glyph.hmtx.items c.resize.new.self.items c.extend_from_slice.new.self.items c.to_bytes.result _ _
    c.loop-glyph-test.true refl c.loop-glyph.invariant (omega (arith, c.from.ensures)) c.loop-glyph.hmtx.ok.0 c.in_ok-resize.ensures.items c.in_ok-extend_from_slice.ensures.items
    (c.to_bytes.ensures ∙ ap metric_bytes (c.metric_of.ensures ∙ ap drawn_metric c.glyph_among.ensures))

pub returns-clause-ok : goal.returns-clause-ok
returns-clause-ok c =
    hmtx_end c.args.mapper.now c.args.drawn.now c.args.count c.loop-glyph.glyph-index c.args.order.now c.loop-glyph.hmtx.items c.resize-2.new.self.items _ _
    (omega (arith, c.loop-glyph-test.false)) c.loop-glyph.invariant (omega (arith, c.from-size.ensures)) c.loop-glyph.hmtx.ok.0 c.in_ok-resize-2.ensures.items
