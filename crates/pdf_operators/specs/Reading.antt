-- What a reader of a content stream draws, and the text that it extracts (ISO 32000-1, 9.4.4, 9.10 and 14.9.4).
use Rattle.std.specs.Prelude.{◌≡◌, ◌<◌, ◌≤◌, ◌++◌, ℕ, ◌*◌, Bool, true, false, is_some, if◌then◌else◌, List, [], ◌∷◌}
use Rattle.std.specs.Prelude.{map, get_or, flat_map, All, Option, Some, None, ℤ, pos, ◌+ℤ◌, ◌-ℤ◌, ◌*ℤ◌, unsigned_abs}
use Rattle.subsetter_base.specs.Remap.{index_by}
use Rattle.subsetter_base.specs.Texts.{utf16}
use Rattle.pdf_values.specs.Rounding.{thousandths}
use Rattle.pdf_runs.specs.declared.codes.Pair.{Pair}
use Rattle.pdf_runs.specs.declared.items.Direction.{Direction}
use Rattle.pdf_runs.specs.declared.items.Item.{Item}
use Rattle.pdf_runs.specs.declared.pieces.Figure.{Figure}
use Rattle.pdf_runs.specs.declared.pieces.Figure.TheVariants.{Source, Blank}
use Rattle.pdf_runs.specs.declared.pieces.Piece.{Piece}
use Rattle.pdf_runs.specs.Clusters.{clusters}
use Rattle.pdf_runs.specs.Codes.{is_zeroth, pair_of, same, zeroth}
use Rattle.pdf_runs.specs.Items.{visual}
use Rattle.pdf_runs.specs.Laws.{Drawn, wanted}
use Rattle.pdf_operators.specs.declared.order.Order.{Order}
use Rattle.pdf_operators.specs.declared.places.Font.{Font}
use Rattle.pdf_operators.specs.Content.{Mark, actual, code, ended, marks_of, number, rise, said_in, sized}
use Rattle.pdf_operators.specs.Operators.{text_of_all, units_of}
use Rattle.pdf_operators.specs.Order.{is_turned, turned}
use Rattle.pdf_operators.specs.Pens.{advance_of, end_of}
use Rattle.pdf_operators.specs.Places.{above, along, metrics_of}
use Rattle.pdf_operators.specs.Runs.{run_acts}

-- ---- what is drawn

-- a code, where the pen is in thousandths of the em along the line, and the text rise in millionths
pub record Placed : Type 0 where
  pub code : ℕ
  pub at : ℤ
  pub rise : ℤ

-- after a code the pen goes on by its width, at a number it goes back, and Ts is the height (9.4.4); from a pen and a
-- text rise on
abbrev pub placed : (ℕ → ℤ) → ℤ → ℤ → List Mark → List Placed
placed width at up [] = []
placed width at up (number z ∷ ms) = placed width (at -ℤ z) up ms
placed width at up (code c ∷ ms) = record { code = c; at = at; rise = up } ∷ placed width (at +ℤ width c) up ms
placed width at up (rise z ∷ ms) = placed width at z ms
placed width at up (actual us ∷ ms) = placed width at up ms
placed width at up (ended ∷ ms) = placed width at up ms

-- where the pen is after them
abbrev pub pen_past : (ℕ → ℤ) → ℤ → List Mark → ℤ
pen_past width at [] = at
pen_past width at (number z ∷ ms) = pen_past width (at -ℤ z) ms
pen_past width at (code c ∷ ms) = pen_past width (at +ℤ width c) ms
pen_past width at (rise z ∷ ms) = pen_past width at ms
pen_past width at (actual us ∷ ms) = pen_past width at ms
pen_past width at (ended ∷ ms) = pen_past width at ms

-- ---- which text is extracted

-- the text of each code in turn; in a span with an ActualText the codes have none, and the span has that (14.9.4)
abbrev pub extracted : (ℕ → Option (List ℕ)) → Bool → List Mark → List (Option (List ℕ))
extracted says within [] = []
extracted says within (number z ∷ ms) = extracted says within ms
extracted says false (code c ∷ ms) = says c ∷ extracted says false ms
extracted says true (code c ∷ ms) = extracted says true ms
extracted says within (rise z ∷ ms) = extracted says within ms
extracted says within (actual us ∷ ms) = Some us ∷ extracted says true ms
extracted says within (ended ∷ ms) = extracted says false ms

-- ---- the font of a text

-- what a code draws, and its width
abbrev pub figure_in : List Pair → ℕ → Figure
figure_in pairs c = (get_or pairs c zeroth).figure

abbrev pub width_in : Font → List Pair → ℕ → ℤ
width_in f pairs c = (metrics_of f (figure_in pairs c)).displacement

-- what a code says: U+2060 (word joiner) where there is nothing; glyph 0 has no text
abbrev pub units_by : Option ℕ → List ℕ
units_by None = 8288 ∷ []
units_by (Some c) = utf16 c

abbrev pub text_of_pair : Pair → Option (List ℕ)
text_of_pair p = if is_zeroth p.figure then None else Some (units_by p.says)

abbrev pub text_in : List Pair → ℕ → Option (List ℕ)
text_in pairs c = text_of_pair (get_or pairs c zeroth)

-- each piece has a code
abbrev pub AreCoded : List Pair → List Piece → Type 0
AreCoded pairs ps = All (λ (p : Piece). is_some (index_by same pairs (pair_of p)) ≡ true) ps

-- ---- where glyphs are

-- a glyph, where its origin is in thousandths of the em along the line, and the text rise in millionths
pub record Origin : Type 0 where
  pub glyph : ℕ
  pub at : ℤ
  pub rise : ℤ

abbrev pub origin_of : Font → Figure → Placed → List Origin
origin_of f (Source g) p = record { glyph = g; at = p.at -ℤ (metrics_of f (Source g)).position; rise = p.rise } ∷ []
origin_of f Blank p = []

-- the glyphs among what is placed
abbrev pub origins : Font → List Pair → List Placed → List Origin
origins f pairs [] = []
origins f pairs (p ∷ ps) = origin_of f (figure_in pairs p.code) p ++ origins f pairs ps

-- the rise of z thousandths of the em, at a font size of `size` thousandths
abbrev pub risen : ℕ → ℤ → ℤ
risen size z = sized z (unsigned_abs z * size)

-- where a glyph is wanted, in thousandths of the em to the nearest
abbrev pub aimed : Font → Direction → ℕ → Drawn → Origin
aimed f d size g =
    record {
      glyph = g.glyph;
      at = thousandths (along d g.x g.y) f.units;
      rise = risen size (thousandths (above d g.y) f.units);
    }

-- what a run's operators say
abbrev pub run_marks : Font → Direction → Order → ℕ → List Pair → List Item → List Mark
run_marks f d o size pairs is = flat_map (marks_of size pairs) (run_acts f d o is)

-- the glyphs that are wanted are drawn, each once, in the order in which they are written and where the shaper has
-- them, to the nearest thousandth of the em
abbrev pub ArePlaced : Font → Direction → Order → ℕ → List Item → List Origin → Type 0
ArePlaced f d o size is os = os ≡ map (aimed f d size) (turned (is_turned d o) (wanted f.inked.now (pos 0) (pos 0) is))

-- after the run the pen is where the shaper has it, to the nearest thousandth of the em
abbrev pub IsEnd : Font → Direction → List Item → ℤ → Type 0
IsEnd f d is at = at ≡ thousandths (end_of d (advance_of is)) f.units

-- twice a thousand times a length is at most the em away from twice its thousandths times the em
abbrev pub ThousandthsAreNear : Type 0
ThousandthsAreNear =
    (v : ℤ) (units : ℕ) → 0 < units → unsigned_abs ((pos (2 * units) *ℤ thousandths v units) -ℤ (pos 2000 *ℤ v)) ≤ units

-- texts that are extracted one after the other, joined in reading order
abbrev pub reading : Direction → Order → List (List ℕ) → List ℕ
reading d o texts = flat_map (λ (t : List ℕ). t) (if is_turned d o then texts else visual d texts)

-- each code and span has a text, and in reading order they are the text of the clusters
pub record IsExtracted (d : Direction) (o : Order) (is : List Item) (found : List (Option (List ℕ))) : Type 0 where
  pub texts : List (List ℕ)
  pub all : found ≡ map Some texts
  pub text : reading d o texts ≡ units_of (text_of_all (visual d (clusters is)))

-- ---- a run that is shown

-- what a reader of the bytes finds: the run's text, its glyphs where the shaper has them, and the pen after the run
pub record IsShown (f : Font) (d : Direction) (o : Order) (size : ℕ) (pairs : List Pair) (is : List Item)
    (bytes : List ℕ) : Type 0 where
  pub text : IsExtracted d o is (extracted (text_in pairs) false (said_in bytes))
  pub places : ArePlaced f d o size is (origins f pairs (placed (width_in f pairs) (pos 0) (pos 0) (said_in bytes)))
  pub pen : IsEnd f d is (pen_past (width_in f pairs) (pos 0) (said_in bytes))
