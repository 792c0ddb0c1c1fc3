use Rattle.std.proofs.Common.{◌≡◌, ◌++◌, drop, length, map, true}
use Rattle.pdf_codes.specs.declared.shown.Shown.{Shown}
use Rattle.subsetter_pdf_c.specs.Entries.{are_ascending, texts_from}
use Rattle.pdf_codes.specs.Shown.{texts_of}
use Rattle.subsetter_pdf_c.proofs.entries.shown_of.Given as goal

abbrev pub invariant-loop-place : goal.invariant-loop-place
invariant-loop-place l = record {
  glyphs : map (λ (s : Shown). s.glyph) l.shown.items ++ drop l.place l.glyphs ≡ l.glyphs;
  texts : texts_of l.shown.items ++ texts_from l.characters l.start (drop l.place l.ends) ≡ texts_from l.characters 0 l.ends;
  ascending : are_ascending l.start (drop l.place l.ends) (length l.characters) ≡ true;
}
