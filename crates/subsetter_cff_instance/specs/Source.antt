-- The tables that a static font is made from (OpenType, "CFF2", "head", "hhea", "hmtx", "maxp" and "HVAR").
use Rattle.std.specs.Prelude.{ℕ, Bool, false, ◌||◌, is_some, List, [], codes, Option, Some, None, Result, Err}
use Rattle.std.specs.Prelude.{if◌then◌else◌}
use Rattle.std.specs.Option.{ok_or}
use Rattle.subsetter_base.specs.declared.error.Error.{Error}
use Rattle.subsetter_base.specs.declared.error.Error.TheVariants.{UnknownKind, MalformedFont, Unimplemented}
use Rattle.subsetter_base.specs.Options.{◌>>=◌}
use Rattle.subsetter_variation.specs.Locations.Coordinates.{is_other_version}
use Rattle.subsetter_sfnt.specs.Fields.Head.{units_per_em, y_max}
use Rattle.subsetter_sfnt.specs.Fields.Hhea.{number_of_h_metrics}
use Rattle.subsetter_sfnt.specs.Fields.Hmtx.{metric_in}
use Rattle.subsetter_sfnt.specs.Fields.Maxp.{num_glyphs}
use Rattle.subsetter_sfnt.specs.declared.fields.hmtx.LongHorMetric.{LongHorMetric}
use Rattle.subsetter_instance.specs.Source.{Source as MetricSource}

-- ---- the outlines

-- there are outlines of another kind
abbrev pub has_other_outlines : (List ℕ → Option (List ℕ)) → Bool
has_other_outlines find = is_some (find (codes "glyf")) || is_some (find (codes "CFF "))

-- the table of the outlines, where they are those of CFF2 alone, among the tables that a look-up finds
unfoldable pub outlines_or_fault : (List ℕ → Option (List ℕ)) → Result (List ℕ) Error
outlines_or_fault find = if has_other_outlines find then Err Unimplemented else ok_or (find (codes "CFF2")) UnknownKind

-- ---- the tables beside them

-- The headers and the metrics: how many glyphs there are (numGlyphs), unitsPerEm, how many glyphs have an advance of
-- their own (numberOfHMetrics), and what varies advances, if anything does.
pub record Source : Type 0 where
  pub maxp : List ℕ
  pub count : ℕ
  pub head : List ℕ
  pub units_per_em : ℕ
  pub number_of_h_metrics : ℕ
  pub hmtx : List ℕ
  pub hvar : Option (List ℕ)

-- the tables that a look-up finds; head goes on to the end of its box, which is written anew
unfoldable pub source_in : (List ℕ → Option (List ℕ)) → Option Source
source_in find = do
  maxp ← find (codes "maxp")
  count ← num_glyphs maxp
  head ← find (codes "head")
  units ← units_per_em head
  top ← y_max (Some head)
  hhea ← find (codes "hhea")
  pairs ← number_of_h_metrics hhea
  hmtx ← find (codes "hmtx")
  Some (record {
    maxp = maxp;
    count = count;
    head = head;
    units_per_em = units;
    number_of_h_metrics = pairs;
    hmtx = hmtx;
    hvar = find (codes "HVAR");
  })

-- HVAR or MVAR has another major version than 1
abbrev pub has_other_version : (List ℕ → Option (List ℕ)) → Bool
has_other_version find = is_other_version (find (codes "HVAR")) || is_other_version (find (codes "MVAR"))

-- the tables, or the name of what is wrong
abbrev pub source_or_fault : (List ℕ → Option (List ℕ)) → Result Source Error
source_or_fault find = if has_other_version find then Err Unimplemented else ok_or (source_in find) MalformedFont

-- ---- a glyph

-- the metric of a glyph, before it varies
unfoldable pub metric : Source → ℕ → Option LongHorMetric
metric s g = metric_in s.hmtx s.number_of_h_metrics g

-- the same metrics in a font of TrueType without outlines
abbrev pub metric_source : Source → MetricSource
metric_source s =
    record {
      glyf = [];
      loca = [];
      long = false;
      count = s.count;
      number_of_h_metrics = s.number_of_h_metrics;
      hmtx = s.hmtx;
      gvar = None;
      hvar = s.hvar;
    }
