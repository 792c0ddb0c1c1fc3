-- What runs with own glyphs need of a font.
use Rattle.std.specs.Prelude.{ℕ, List, Bool, Result, Ok, ℤ}
use Rattle.subsetter_base.specs.declared.tag.Tag.{Tag}
use Rattle.subsetter_base.specs.declared.error.Error.{Error}
use Rattle.subsetter_base.specs.Bytes.{◌>>=◌}
use Rattle.subsetter_sfnt.specs.Plain.{opened}
use Rattle.subsetter_sfnt.specs.Read.{Font, table_in}
use Rattle.font_advances.specs.Advances.{advances_of}
use Rattle.text_metrics.specs.Ink.{each_from}
use Rattle.text_metrics.specs.Metrics.{Metrics, count_in, metrics_seen, text_metrics}
use Rattle.own_choice.specs.Parts.{has_charstrings, parts_in}
use Rattle.own_choice.specs.declared.choice.OwnChoice.{OwnChoice}

-- what lines need, and of each glyph the advance in units of the font and whether it can be a part; how many parts own
-- glyphs can have, and whether these stay at the origin
pub record Chosen : Type 0 where
  pub lines : Metrics
  pub advances : List ℕ
  pub can_be_part : List Bool
  pub most_parts : ℕ
  pub is_still : Bool

abbrev pub chosen_seen : OwnChoice → Chosen
chosen_seen c =
    record {
      lines = metrics_seen c.lines;
      advances = c.advances.items;
      can_be_part = c.can_be_part.items;
      most_parts = c.most_parts;
      is_still = c.is_still;
    }

-- of all glyphs of a font at settings of its user coordinates, where a glyph of `glyf` may take `steps` steps
unfoldable pub own_choice : Font → List (Tag × ℤ) → ℕ → Result Chosen Error
own_choice font settings steps = do
  lines ← text_metrics font settings steps
  records ← opened font
  count ← count_in (table_in font.bytes records)
  advances ← advances_of font settings steps (each_from (λ g. g) 0 count)
  parts ← parts_in (table_in font.bytes records) settings steps count
  Ok (record {
    lines = lines;
    advances = advances.widths;
    can_be_part = parts.can_be;
    most_parts = parts.most;
    is_still = has_charstrings (table_in font.bytes records);
  })
