-- Glyphs with their texts as one run of a text, with the font's own advances (ISO 32000-1, 9.4.4 and 9.7.4.3).
use Rattle.std.specs.Prelude.{◌≡◌, ℕ, ◌+◌, Bool, true, false, List, [], ◌∷◌, length, map, get_or, min, Some, Result, Ok}
use Rattle.std.specs.Prelude.{pos, ◌-ℤ◌, unsigned_abs}
use Rattle.std.specs.Int.{saturate_signed, w32}
use Rattle.subsetter_base.specs.Gives.{Fails}
use Rattle.subsetter_base.specs.declared.error.Error.{Error}
use Rattle.subsetter_base.specs.declared.error.Error.TheVariants.{MalformedFont, OutOfMemory, OverflowError}
use Rattle.subsetter_sfnt.specs.Extras.{all_extras}
use Rattle.subsetter_sfnt.specs.FontAt.{font_at}
use Rattle.pdf_codes.specs.declared.shown.Shown.{Shown}
use Rattle.pdf_operators.specs.Operators.{operators}
use Rattle.pdf_operators.specs.Places.{no_metrics}
use Rattle.pdf_operators.specs.Reading.{IsShown}
use Rattle.pdf_operators.specs.Runs.{IsRefused, run_acts}
use Rattle.pdf_operators.specs.declared.order.Order.TheVariants.{Visual}
use Rattle.pdf_operators.specs.declared.places.Font.{Font}
use Rattle.pdf_operators.specs.declared.places.GlyphMetrics.{GlyphMetrics}
use Rattle.pdf_runs.specs.Codes.{AreCodes, with_pairs, zeroth}
use Rattle.pdf_runs.specs.Items.{is_run}
use Rattle.pdf_runs.specs.Pieces.{pieces_of_run}
use Rattle.pdf_runs.specs.declared.codes.Pair.{Pair}
use Rattle.pdf_runs.specs.declared.error.RunError.{RunError}
use Rattle.pdf_runs.specs.declared.error.RunError.TheVariants.{InvalidText, Overfull, OutOfMemory as NoMemory}
use Rattle.pdf_runs.specs.declared.items.Direction.{Direction}
use Rattle.pdf_runs.specs.declared.items.Direction.TheVariants.{LeftToRight, TopToBottom}
use Rattle.pdf_runs.specs.declared.items.Item.{Item}
use Rattle.text_metrics.specs.Columns.{column_metrics}
use Rattle.text_metrics.specs.Metrics.{Metrics, text_metrics}
use Rattle.subset_pdf.specs.declared.line.Line.{Line}
use Rattle.subset_pdf.specs.declared.options.PdfRequest.{PdfRequest}

-- ---- the items

abbrev pub direction_of : Bool → Direction
direction_of true = TopToBottom
direction_of false = LeftToRight

-- a glyph and its text: the pen goes on by the width in W, or by w1y in W2, and there the position vector leads to the
-- pen
abbrev pub item_by : Bool → GlyphMetrics → Shown → Item
item_by false m s =
    record {
      glyph = s.glyph;
      text = Some s.text;
      x_advance = m.displacement;
      y_advance = pos 0;
      x_offset = pos 0;
      y_offset = pos 0;
    }
item_by true m s =
    record {
      glyph = s.glyph;
      text = Some s.text;
      x_advance = pos 0;
      y_advance = m.displacement;
      x_offset = pos 0;
      y_offset = saturate_signed w32 (pos 0 -ℤ m.position);
    }

abbrev pub item_of : Bool → List GlyphMetrics → Shown → Item
item_of vertical ms s = item_by vertical (get_or ms s.glyph no_metrics) s

abbrev pub items_of : Bool → List GlyphMetrics → List Shown → List Item
items_of vertical ms shown = map (item_of vertical ms) shown

-- how far the pen goes on
abbrev pub length_of : List Item → ℕ
length_of [] = 0
length_of (i ∷ is) = (unsigned_abs i.x_advance + unsigned_abs i.y_advance) + length_of is

-- ---- the run

-- the pairs of a text of this run alone
abbrev pub pairs_of : Font → Direction → List Item → List Pair
pairs_of f d is = with_pairs (zeroth ∷ []) (pieces_of_run d f.inked.now is)

-- its operators at 36 points, what a reader finds in them, and the codes that they show
pub record IsLine (f : Font) (d : Direction) (is : List Item) (line : Line) : Type 0 where
  pub pairs_are : line.pairs ≡ pairs_of f d is
  pub operators_are : line.operators.items ≡ operators 36000 line.pairs (run_acts f d Visual is)
  pub shown : IsShown f d Visual 36000 line.pairs is line.operators.items
  pub codes_are : AreCodes line.pairs (pieces_of_run d f.inked.now is) line.codes.items
  -- a page has at most 14,400 points
  pub advance : line.advance ≡ min (length_of is) 398000
  pub glyph_count : line.glyph_count ≡ length f.metrics.now

-- the error of a run of glyphs that the font has: a place hasn't got 32 bits, an ActualText is too long, or no codes
-- are left
abbrev pub named : RunError → Error
named InvalidText = OverflowError
named Overfull = OverflowError
named NoMemory = OutOfMemory

-- why there is none: the font hasn't got a glyph, or `show_run` refuses the run
pub data HasNoLine (f : Font) (d : Direction) (is : List Item) (why : Error) : Type 0 where
  unknown : why ≡ MalformedFont → is_run d (length f.metrics.now) is ≡ false → HasNoLine f d is why
  unshown : (e : RunError) (new : List Pair) → why ≡ named e → is_run d (length f.metrics.now) is ≡ true
      → IsRefused f d Visual (zeroth ∷ []) new is e
      → HasNoLine f d is why

-- ---- of a font

-- what a run needs of it
abbrev pub metrics_by : Bool → List ℕ → PdfRequest → Result Metrics Error
metrics_by false bytes request =
    text_metrics (font_at bytes request.index all_extras) request.at.now request.limits.tokens
metrics_by true bytes request = column_metrics (font_at bytes request.index all_extras) request.at.now request.limits

abbrev pub metrics_for : List ℕ → PdfRequest → Result Metrics Error
metrics_for bytes request = metrics_by request.choice.vertical bytes request

-- as the run gets it: its lengths are thousandths of the em
pub record IsRunFont (bytes : List ℕ) (request : PdfRequest) (f : Font) : Type 0 where
  pub metrics : Metrics
  pub read : metrics_for bytes request ≡ Ok metrics
  pub units : f.units ≡ 1000
  pub metrics_are : f.metrics.now ≡ metrics.metrics
  pub inked : f.inked.now ≡ metrics.inked

abbrev pub items_for : PdfRequest → Font → List Shown → List Item
items_for request f shown = items_of request.choice.vertical f.metrics.now shown

pub record IsLineFor (bytes : List ℕ) (request : PdfRequest) (shown : List Shown) (line : Line) : Type 0 where
  pub font : Font
  pub is_font : IsRunFont bytes request font
  pub is_line : IsLine font (direction_of request.choice.vertical) (items_for request font shown) line

pub data HasLineFault (bytes : List ℕ) (request : PdfRequest) (shown : List Shown) (why : Error) : Type 0 where
  unread : Fails why (metrics_for bytes request) → HasLineFault bytes request shown why
  no_line : (font : Font) → IsRunFont bytes request font
      → HasNoLine font (direction_of request.choice.vertical) (items_for request font shown) why
      → HasLineFault bytes request shown why
