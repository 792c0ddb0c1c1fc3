-- What the code's values mean.
use Rattle.std.specs.Prelude.{◌≡◌, ℕ, List, Option, Result, Ok, Err}
use Rattle.subsetter_base.specs.declared.error.Error.{Error}
use Rattle.subsetter_cff.specs.declared.write.glyphs.kept_glyphs.KeptGlyphs.{KeptGlyphs}
use Rattle.subsetter_cff.specs.Read.Cff.{Cff}
use Rattle.subsetter_cff.specs.Write.Glyphs.KeptView.{AreKept}
use Rattle.subsetter_cff.specs.Write.Plain.{KeptGlyph}
use Rattle.pdf_widths.specs.Change.{text}
use Rattle.cff_repeats.specs.Repeats.{figures_of}
use Rattle.cff_repeats.specs.declared.figures.Figure.{Figure}

abbrev pub figure_view : Figure → KeptGlyph
figure_view f = record { number = f.number; bytes = text (record { width = f.width; body = f.body.now }) }

abbrev pub seen : Result Figure Error → Result KeptGlyph Error
seen (Ok f) = Ok (figure_view f)
seen (Err e) = Err e

-- all glyphs of the new table, as they are held in memory
pub record AreKeptFigures (cff : Cff) (figures : List (Option ℕ)) (k : KeptGlyphs) : Type 0 where
  pub kept : List KeptGlyph
  pub are : figures_of cff figures ≡ Ok kept
  pub shown : AreKept kept k
