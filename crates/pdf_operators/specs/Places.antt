-- Where a reader's pen is taken, so that each glyph is where the shaper has it (ISO 32000-1, 9.4.4).
use Rattle.std.specs.Prelude.{◌&&◌, nat_lt, Bool, true, false, if◌then◌else◌, List, [], ◌∷◌, ◌++◌, get_or, Option, Some}
use Rattle.std.specs.Prelude.{None, ℤ, pos, negsuc, ◌+ℤ◌, ◌-ℤ◌, ◌^◌}
use Rattle.std.specs.Ordering.{int_eq}
use Rattle.pdf_values.specs.Rounding.{thousandths}
use Rattle.pdf_runs.specs.declared.codes.Pair.{Pair}
use Rattle.pdf_runs.specs.declared.items.Direction.{Direction}
use Rattle.pdf_runs.specs.declared.items.Direction.TheVariants.{LeftToRight, RightToLeft, TopToBottom}
use Rattle.pdf_runs.specs.declared.pieces.Figure.{Figure}
use Rattle.pdf_runs.specs.declared.pieces.Figure.TheVariants.{Source, Blank}
use Rattle.pdf_runs.specs.declared.pieces.Piece.{Piece}
use Rattle.pdf_runs.specs.Codes.{pair_of}
use Rattle.pdf_operators.specs.declared.places.Font.{Font}
use Rattle.pdf_operators.specs.declared.places.GlyphMetrics.{GlyphMetrics}
use Rattle.pdf_operators.specs.declared.places.Stop.{Stop}
use Rattle.pdf_operators.specs.declared.places.Wide.{Wide}
use Rattle.pdf_operators.specs.Operators.{Act, raise, show}

-- ---- lengths

-- the coordinate along the line: x, or y from top to bottom
abbrev pub along : Direction → ℤ → ℤ → ℤ
along LeftToRight x y = x
along RightToLeft x y = x
along TopToBottom x y = y

-- above the line; beside a column nothing is moved
abbrev pub above : Direction → ℤ → ℤ
above LeftToRight y = y
above RightToLeft y = y
above TopToBottom y = pos 0

abbrev pub no_metrics : GlyphMetrics
no_metrics = record { displacement = pos 0; position = pos 0 }

abbrev pub metrics_of : Font → Figure → GlyphMetrics
metrics_of f (Source g) = get_or f.metrics.now g no_metrics
metrics_of f Blank = no_metrics

-- ---- one piece

-- where the shaper's pen is at a glyph, and then: it goes on by the advance, or before the glyph back by it, where
-- glyphs are written from the last to the first
abbrev pub pen_at : Bool → ℤ → ℤ → ℤ
pen_at false z a = z
pen_at true z a = z -ℤ a

abbrev pub pen_then : Bool → ℤ → ℤ → ℤ
pen_then false z a = z +ℤ a
pen_then true z a = z -ℤ a

-- where a glyph's origin is to be, in units of the font
abbrev pub x_of : Stop → Piece → ℤ
x_of s p = pen_at s.is_turned s.x p.x_advance +ℤ p.x

abbrev pub y_of : Stop → Piece → ℤ
y_of s p = pen_at s.is_turned s.y p.y_advance +ℤ p.y

-- the same along the line, in thousandths of the em
abbrev pub origin_at : Font → Direction → Stop → Piece → ℤ
origin_at f d s p = thousandths (along d (x_of s p) (y_of s p)) f.units

-- a piece after a stop: the number before its code, and the pens after it
abbrev pub next : Font → Direction → Stop → Piece → Stop
next f d s p = record {
  back = s.at -ℤ (origin_at f d s p +ℤ (metrics_of f p.figure).position);
  x = pen_then s.is_turned s.x p.x_advance;
  y = pen_then s.is_turned s.y p.y_advance;
  at = (origin_at f d s p +ℤ (metrics_of f p.figure).position) +ℤ (metrics_of f p.figure).displacement;
  rise = thousandths (above d (y_of s p)) f.units;
  is_turned = s.is_turned;
}

-- integers have 32 bits (Annex C)
abbrev pub in_32_bits : ℤ → Option ℤ
in_32_bits (pos n) = if nat_lt n (2 ^ 31) then Some (pos n) else None
in_32_bits (negsuc n) = if nat_lt n (2 ^ 31) then Some (negsuc n) else None

abbrev pub fits : ℤ → Bool
fits (pos n) = nat_lt n (2 ^ 31)
fits (negsuc n) = nat_lt n (2 ^ 31)

abbrev pub is_near : Stop → Bool
is_near s = (fits s.back && (fits s.x && fits s.y)) && (fits s.at && fits s.rise)

-- the first three numbers
abbrev pub first_three : Stop → Stop
first_three s = record { back = s.back; x = s.x; y = s.y; at = pos 0; rise = pos 0; is_turned = s.is_turned }

-- with the last two numbers of another
abbrev pub with_last : Stop → Stop → Stop
with_last s l = record { back = s.back; x = s.x; y = s.y; at = l.at; rise = l.rise; is_turned = s.is_turned }

abbrev pub narrowed : Wide → Stop
narrowed w = record { back = w.back; x = w.x; y = w.y; at = w.at; rise = w.rise; is_turned = w.is_turned }

-- ---- pieces

abbrev pub shown_at : Stop → Stop → Pair → List Act
shown_at s n q = (if int_eq n.rise s.rise then [] else raise n.rise ∷ []) ++ show n.back q ∷ []

-- what shows pieces after a stop
abbrev pub laid : Font → Direction → Stop → List Piece → List Act
laid f d s [] = []
laid f d s (p ∷ ps) = shown_at s (next f d s p) (pair_of p) ++ laid f d (next f d s p) ps

-- the stop after them
abbrev pub stop_after : Font → Direction → Stop → List Piece → Stop
stop_after f d s [] = s
stop_after f d s (p ∷ ps) = stop_after f d (next f d s p) ps

abbrev pub are_near : Font → Direction → Stop → List Piece → Bool
are_near f d s [] = true
are_near f d s (p ∷ ps) = is_near (next f d s p) && are_near f d (next f d s p) ps

-- how far the pen is before the end of the line
abbrev pub last_back : Font → ℤ → Stop → ℤ
last_back f end s = s.at -ℤ thousandths end f.units
