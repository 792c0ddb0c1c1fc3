-- The plain way to a static font, with the error that is returned where it is refused.
use Rattle.std.specs.Prelude.{ℕ, List, Option, Result, Ok, ℤ}
use Rattle.subsetter_base.specs.Bytes.{◌>>=◌}
use Rattle.subsetter_base.specs.declared.tag.Tag.{Tag}
use Rattle.subsetter_base.specs.declared.error.Error.{Error}
use Rattle.subsetter_sfnt.specs.declared.fields.hmtx.LongHorMetric.{LongHorMetric}
use Rattle.subsetter_sfnt.specs.Read.{Font, table_in}
use Rattle.subsetter_sfnt.specs.Plain.{opened}
use Rattle.subsetter_instance.specs.Source.{normalized_coordinates}
use Rattle.subsetter_instance.specs.Tables.Lines.{Lines, lines_of}
use Rattle.subsetter_cff_at.specs.Plain.{Drawn, drawn_of, made_table}
use Rattle.subsetter_cff_at.specs.Request.{Request}
use Rattle.subsetter_cff_instance.specs.Metrics.{varied_metrics, metrics_by_glyph, advances}
use Rattle.subsetter_cff_instance.specs.Source.{Source, outlines_or_fault, source_or_fault}
use Rattle.subsetter_cff_instance.specs.Tables.{laid}

-- ---- what is read of a font at a location: the normalized coordinates, the tables, the metrics of the glyphs that are
-- asked for, in their order, and hhea and post, of which some metrics vary
pub record Prepared : Type 0 where
  pub at : List ℤ
  pub source : Source
  pub metrics : List LongHorMetric
  pub lines : Lines

unfoldable pub prepared : (List ℕ → Option (List ℕ)) → List (Tag × ℤ) → List ℕ → Result Prepared Error
prepared find settings glyphs = do
  at ← normalized_coordinates find settings
  s ← source_or_fault find
  metrics ← varied_metrics s at glyphs
  lines ← lines_of find settings at
  Ok (record { at = at; source = s; metrics = metrics; lines = lines })

-- ---- what is made of that

-- each glyph under its old number, with its advance where it is asked for
abbrev pub request_at : List ℕ → Prepared → Request
request_at glyphs p =
    record {
      at = p.at;
      glyphs = advances (metrics_by_glyph glyphs p.metrics p.source.count);
      units = p.source.units_per_em;
    }

-- of the tables that a look-up finds, and of this CFF2
unfoldable pub cff_instance_in : (List ℕ → Option (List ℕ)) → List ℕ → List (Tag × ℤ) → List ℕ → ℕ → ℕ
    → Result (List ℕ) Error
cff_instance_in find cff2 settings glyphs tokens depth = do
  p ← prepared find settings glyphs
  cff ← made_table cff2 (request_at glyphs p) tokens depth
  laid find p.source p.lines glyphs p.metrics cff

-- the charstrings alone
unfoldable pub charstrings_in : (List ℕ → Option (List ℕ)) → List ℕ → List (Tag × ℤ) → List ℕ → ℕ → ℕ
    → Result Drawn Error
charstrings_in find cff2 settings glyphs tokens depth =
    prepared find settings glyphs >>= λ p. drawn_of cff2 (request_at glyphs p) tokens depth

-- ---- of a font at settings of its user coordinates, for glyphs, each of whose charstrings
-- may take `tokens` tokens and go `depth` deep

unfoldable pub cff_instance_of : Font → List (Tag × ℤ) → List ℕ → ℕ → ℕ → Result (List ℕ) Error
cff_instance_of font settings glyphs tokens depth = do
  records ← opened font
  cff2 ← outlines_or_fault (table_in font.bytes records)
  cff_instance_in (table_in font.bytes records) cff2 settings glyphs tokens depth

unfoldable pub charstrings_of : Font → List (Tag × ℤ) → List ℕ → ℕ → ℕ → Result Drawn Error
charstrings_of font settings glyphs tokens depth = do
  records ← opened font
  cff2 ← outlines_or_fault (table_in font.bytes records)
  charstrings_in (table_in font.bytes records) cff2 settings glyphs tokens depth
