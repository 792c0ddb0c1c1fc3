-- What runs of text need of a font.
use Rattle.std.specs.Prelude.{ℕ, List, Bool, codes, map, Option, Result, Ok, pos, ℤ}
use Rattle.std.specs.Option.{ok_or}
use Rattle.subsetter_base.specs.declared.tag.Tag.{Tag}
use Rattle.subsetter_base.specs.Bytes.{◌>>=◌}
use Rattle.subsetter_base.specs.declared.error.Error.{Error}
use Rattle.subsetter_base.specs.declared.error.Error.TheVariants.{MalformedFont}
use Rattle.subsetter_sfnt.specs.Fields.Maxp.{num_glyphs}
use Rattle.subsetter_sfnt.specs.Plain.{opened}
use Rattle.subsetter_sfnt.specs.Read.{Font, table_in}
use Rattle.cid_embed.specs.Width.{thousandths}
use Rattle.font_advances.specs.Advances.{advances_of}
use Rattle.pdf_operators.specs.declared.places.GlyphMetrics.{GlyphMetrics}
use Rattle.text_metrics.specs.Ink.{each_from, inked_in}
use Rattle.text_metrics.specs.declared.metrics.TextMetrics.{TextMetrics}

-- the width that W has of an advance; a line isn't vertical
abbrev pub metrics_of : ℕ → ℕ → GlyphMetrics
metrics_of units advance = record { displacement = pos (thousandths advance units); position = pos 0 }

-- unitsPerEm, the metrics of each glyph, and whether it has ink
pub record Metrics : Type 0 where
  pub units : ℕ
  pub metrics : List GlyphMetrics
  pub inked : List Bool

abbrev pub metrics_seen : TextMetrics → Metrics
metrics_seen t = record { units = t.units; metrics = t.metrics.items; inked = t.inked.items }

-- the number of glyphs that maxp has
abbrev pub count_in : (List ℕ → Option (List ℕ)) → Result ℕ Error
count_in find = do
  maxp ← ok_or (find (codes "maxp")) MalformedFont
  ok_or (num_glyphs maxp) MalformedFont

-- of all glyphs of a font at settings of its user coordinates, where a glyph of `glyf` may take `steps` steps
unfoldable pub text_metrics : Font → List (Tag × ℤ) → ℕ → Result Metrics Error
text_metrics font settings steps = do
  records ← opened font
  count ← count_in (table_in font.bytes records)
  advances ← advances_of font settings steps (each_from (λ g. g) 0 count)
  Ok (record {
    units = advances.units_per_em;
    metrics = map (metrics_of advances.units_per_em) advances.widths;
    inked = inked_in (table_in font.bytes records) count;
  })
