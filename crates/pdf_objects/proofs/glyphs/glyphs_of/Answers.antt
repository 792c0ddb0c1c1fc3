use Rattle.std.proofs.Common.{false, [], arith}
use Rattle.pdf_codes.specs.Shown.{texts_of}
use Rattle.pdf_sheet.specs.declared.glyphs.SheetGlyph.{SheetGlyph}
use Rattle.pdf_objects.specs.Glyphs.{advance_of}
use Rattle.pdf_objects.proofs.Steps.{length_texts, one_more, one_more_by}
use Rattle.pdf_objects.proofs.glyphs.glyphs_of.Goals as goal

pub loop-place-preserved : goal.loop-place-preserved
loop-place-preserved c =
    let gs = c.loop-place.glyphs.items in
    let gs1 = c.push.new.self.items in
    let g = c.glyph_at.result in
    let i = c.loop-place.place in
    let w = c.args.view in
    record {
      codes = one_more (λ (g : SheetGlyph). g.code) gs gs1 g w.codes.now i 0 (omega arith) c.in_ok-push.ensures.items c.glyph_at.ensures.code c.loop-place.invariant.codes;
      is_said = one_more (λ (g : SheetGlyph). g.is_said) gs gs1 g w.is_said.now i false (omega arith) c.in_ok-push.ensures.items c.glyph_at.ensures.is_said c.loop-place.invariant.is_said;
      texts = one_more (λ (g : SheetGlyph). g.text.now) gs gs1 g (texts_of c.args.shown.now) i [] (omega (arith, length_texts c.args.shown.now)) c.in_ok-push.ensures.items c.glyph_at.ensures.text c.loop-place.invariant.texts;
      advances = one_more_by (λ (g : SheetGlyph). g.advance) (advance_of w.values) gs gs1 g w.cids.now i 0 (omega arith) c.in_ok-push.ensures.items c.glyph_at.ensures.advance c.loop-place.invariant.advances;
    }
