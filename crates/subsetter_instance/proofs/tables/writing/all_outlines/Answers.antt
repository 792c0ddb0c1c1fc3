use Rattle.std.proofs.Common.{◌∷◌, [], ◌++◌, length, get_or, refl, ap, ◌∙◌, arith}
use Rattle.std.proofs.lemmas.List.{length-append}
use Rattle.subsetter_instance.specs.Tables.Written.{glyph_among, outline_bytes}
use Rattle.subsetter_instance.proofs.TablesLaws.RequestedLemmas.{outlines_more, outlines_end, starts_more, starts_end}
use Rattle.subsetter_instance.proofs.tables.writing.all_outlines.Goals as goal

pub loop-glyph-preserved : goal.loop-glyph-preserved
loop-glyph-preserved c =
    let among = glyph_among c.args.mapper.now c.args.drawn.now in
    let k = c.loop-glyph.glyph-index in
    let g = get_or c.args.order.now k 0 in
    let w = c.loop-glyph.glyf.items in
    let here = ap outline_bytes c.glyph_among.ensures in
    record {
      written = outlines_more among c.args.order.now w c.write_outline.new.glyf.items _ _ k g c.loop-glyph-test.true refl c.in_ok-write_outline.ensures.ok here c.loop-glyph.invariant.written;
      starts =
          starts_more among c.args.order.now c.loop-glyph.starts.items c.push.new.self.items _ (length w) (length c.write_outline.new.glyf.items) k g c.loop-glyph-test.true refl (c.in_ok-push.ensures.items ∙ ap (λ n. c.loop-glyph.starts.items ++ n ∷ []) (omega (arith, c.len.ensures, c.loop-glyph.glyf.ok.0)))
          (omega (arith, ap length (c.in_ok-write_outline.ensures.ok ∙ ap (λ b. w ++ b) here), length-append w (outline_bytes (among g)))) c.loop-glyph.invariant.starts;
    }

pub returns-clause-glyf : goal.returns-clause-glyf
returns-clause-glyf c =
    outlines_end (glyph_among c.args.mapper.now c.args.drawn.now) c.args.order.now c.loop-glyph.glyf.items _ c.loop-glyph.glyph-index (omega (arith, c.loop-glyph-test.false)) c.loop-glyph.invariant.written

pub returns-clause-starts : goal.returns-clause-starts
returns-clause-starts c =
    starts_end (glyph_among c.args.mapper.now c.args.drawn.now) c.args.order.now c.loop-glyph.starts.items _ (length c.loop-glyph.glyf.items) c.loop-glyph.glyph-index (omega (arith, c.loop-glyph-test.false)) c.loop-glyph.invariant.starts
