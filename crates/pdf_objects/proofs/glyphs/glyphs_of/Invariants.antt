use Rattle.std.proofs.Common.{◌≡◌, map, take}
use Rattle.pdf_codes.specs.Shown.{texts_of}
use Rattle.pdf_sheet.specs.declared.glyphs.SheetGlyph.{SheetGlyph}
use Rattle.pdf_objects.specs.Glyphs.{advance_of}
use Rattle.pdf_objects.proofs.glyphs.glyphs_of.Given as goal

abbrev pub invariant-loop-place : goal.invariant-loop-place
invariant-loop-place l = record {
  codes : map (λ (g : SheetGlyph). g.code) l.glyphs.items ≡ take l.place l.view.codes.now;
  is_said : map (λ (g : SheetGlyph). g.is_said) l.glyphs.items ≡ take l.place l.view.is_said.now;
  texts : map (λ (g : SheetGlyph). g.text.now) l.glyphs.items ≡ take l.place (texts_of l.shown);
  advances : map (λ (g : SheetGlyph). g.advance) l.glyphs.items ≡ map (advance_of l.view.values) (take l.place l.view.cids.now);
}
