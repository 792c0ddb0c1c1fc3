use Rattle.std.proofs.Common.{◌≡◌, false, ℕ, List, Option, drop, map}
use Rattle.subsetter_base.specs.Within.{is_past}
use Rattle.subsetter_cff2.specs.Made2View.{dict_view}
use Rattle.subsetter_cff_at.specs.Plain.{texts_from}
use Rattle.subsetter_cff_at.specs.View.{opened_of, AreTexts, with_texts}
use Rattle.subsetter_cff_at.proofs.texts.draw_texts.Given as goal

abbrev pub invariant-loop-glyph : goal.invariant-loop-glyph
invariant-loop-glyph l = record {
  before : List (Option (List ℕ));
  whole : with_texts before (texts_from (opened_of l.opened).cff (opened_of l.opened).variation l.limits.tokens l.limits.depth (map dict_view l.dicts) (drop l.glyph l.places) l.glyph (drop l.glyph l.glyphs))
      ≡ texts_from (opened_of l.opened).cff (opened_of l.opened).variation l.limits.tokens l.limits.depth (map dict_view l.dicts) l.places 0 l.glyphs;
  shown : AreTexts before l.texts;
  within : is_past l.limits.bytes l.texts.requested ≡ false;
}
