-- What runs from top to bottom need of a font (ISO 32000-1, 9.7.4.3).
use Rattle.std.specs.Prelude.{ℕ, List, [], ◌∷◌, map, codes, replicate, Option, Result, Ok, ℤ}
use Rattle.subsetter_base.specs.declared.tag.Tag.{Tag}
use Rattle.subsetter_base.specs.declared.error.Error.{Error}
use Rattle.subsetter_base.specs.Bytes.{◌>>=◌}
use Rattle.subsetter_base.specs.Indexes.{with_glyphs}
use Rattle.subsetter_sfnt.specs.Plain.{opened}
use Rattle.subsetter_sfnt.specs.Read.{Font, table_in}
use Rattle.subsetter_type2.specs.declared.limits.Limits.{Limits}
use Rattle.pdf_glyphs.specs.Vertical.{columns_at}
use Rattle.pdf_operators.specs.declared.places.GlyphMetrics.{GlyphMetrics}
use Rattle.pdf_source.specs.Moved.{Location, location_in}
use Rattle.pdf_source.specs.Named.{heights_by}
use Rattle.pdf_source.specs.Source.{vertical_of}
use Rattle.pdf_source.specs.Tops.{tops_of}
use Rattle.pdf_text.specs.declared.metrics.columns.Column.{Column}
use Rattle.text_metrics.specs.Ink.{each_from}
use Rattle.text_metrics.specs.Metrics.{Metrics, count_in, text_metrics}

-- w1y and the y of the position vector; the line is where its x is
abbrev pub metrics_of : Column → GlyphMetrics
metrics_of c = record { displacement = c.advance; position = c.y }

-- glyph 0 and the first `count` glyphs
abbrev pub numbered : ℕ → List ℕ
numbered count = with_glyphs (0 ∷ []) (each_from (λ g. g) 0 count)

-- of the columns that a PDF's font has; a width says the x alone
abbrev pub columns_there : (List ℕ → Option (List ℕ)) → Option Location → Limits → ℕ → List GlyphMetrics
columns_there find location limits count =
    map metrics_of (columns_at (vertical_of find) (heights_by location (find (codes "VVAR")))
    (tops_of find limits (numbered count)) (numbered count) (replicate count 0))

abbrev pub columns_in : (List ℕ → Option (List ℕ)) → List (Tag × ℤ) → Limits → ℕ → List GlyphMetrics
columns_in find settings limits count = columns_there find (location_in find settings) limits count

-- unitsPerEm and ink are those of lines
unfoldable pub column_metrics : Font → List (Tag × ℤ) → Limits → Result Metrics Error
column_metrics font settings limits = do
  lines ← text_metrics font settings limits.tokens
  records ← opened font
  count ← count_in (table_in font.bytes records)
  Ok (record {
    units = lines.units;
    metrics = columns_in (table_in font.bytes records) settings limits count;
    inked = lines.inked;
  })
