-- The tables that an instance is made from (OpenType, "head", "hhea", "hmtx", "maxp", "loca", "glyf", "fvar", "avar",
-- "gvar" and "HVAR").
use Rattle.std.specs.Prelude.{◌≡◌, IfSome, ℕ, ◌+◌, Bool, not, ◌||◌, List, [], codes, Option, Some, None, Result, Ok}
use Rattle.std.specs.Prelude.{Err, ◌==◌, if◌then◌else◌, ℤ}
use Rattle.std.specs.Option.{ok_or}
use Rattle.subsetter_base.specs.Bytes.{number, between_offsets}
use Rattle.subsetter_base.specs.declared.tag.Tag.{Tag}
use Rattle.subsetter_base.specs.declared.error.Error.{Error}
use Rattle.subsetter_base.specs.declared.error.Error.TheVariants.{MalformedFont, Unimplemented}
use Rattle.subsetter_variation.specs.Glyphs.Tuples.{Gvar, gvar_table}
use Rattle.subsetter_variation.specs.Locations.Coordinates.{is_other_version, normalized_or_fault}
use Rattle.subsetter_base.specs.Options.{◌>>=◌}
use Rattle.subsetter_sfnt.specs.Fields.Hmtx.{metric_in}
use Rattle.subsetter_sfnt.specs.Fields.Loca.{loca_offset}
use Rattle.subsetter_sfnt.specs.declared.fields.hmtx.LongHorMetric.{LongHorMetric}

-- ---- the place

-- the normalized coordinates for settings of user coordinates; a font without fvar has no axes
abbrev pub normalized_by : Option (List ℕ) → Option (List ℕ) → List (Tag × ℤ) → Result (List ℤ) Error
normalized_by None avar settings = Ok []
normalized_by (Some fvar) avar settings = normalized_or_fault fvar avar settings

-- the same, of the tables that a look-up finds
abbrev pub normalized_coordinates : (List ℕ → Option (List ℕ)) → List (Tag × ℤ) → Result (List ℤ) Error
normalized_coordinates find settings = normalized_by (find (codes "fvar")) (find (codes "avar")) settings

-- ---- the tables

-- The tables of outlines and metrics: where offsets of loca are long, how many glyphs there are (numGlyphs), how many
-- of them have an advance of their own (numberOfHMetrics), and what varies, if anything does.
pub record Source : Type 0 where
  pub glyf : List ℕ
  pub loca : List ℕ
  pub long : Bool
  pub count : ℕ
  pub number_of_h_metrics : ℕ
  pub hmtx : List ℕ
  pub gvar : Option Gvar
  pub hvar : Option (List ℕ)

-- gvar has as many axes as fvar; without it no outline varies
abbrev pub variations_in : Option (List ℕ) → ℕ → Option (Option Gvar)
variations_in None axes = Some None
variations_in (Some bytes) axes = do
  t ← gvar_table bytes
  if t.axis_count == axes then Some (Some t) else None

-- the tables that a look-up finds, for `axes` axes: loca is long where indexToLocFormat isn't 0
unfoldable pub source_in : (List ℕ → Option (List ℕ)) → ℕ → Option Source
source_in find axes = do
  glyf ← find (codes "glyf")
  loca ← find (codes "loca")
  head ← find (codes "head")
  format ← number head 50 2
  maxp ← find (codes "maxp")
  count ← number maxp 4 2
  hhea ← find (codes "hhea")
  pairs ← number hhea 34 2
  hmtx ← find (codes "hmtx")
  gvar ← variations_in (find (codes "gvar")) axes
  Some (record {
    glyf = glyf;
    loca = loca;
    long = not (format == 0);
    count = count;
    number_of_h_metrics = pairs;
    hmtx = hmtx;
    gvar = gvar;
    hvar = find (codes "HVAR");
  })

-- gvar, HVAR or MVAR has another major version than 1
abbrev pub has_other_version : (List ℕ → Option (List ℕ)) → Bool
has_other_version find =
    is_other_version (find (codes "gvar"))
    || (is_other_version (find (codes "HVAR")) || is_other_version (find (codes "MVAR")))

-- the tables, or the name of what is wrong
abbrev pub source_or_fault : (List ℕ → Option (List ℕ)) → ℕ → Result Source Error
source_or_fault find axes =
    if has_other_version find then Err Unimplemented else ok_or (source_in find axes) MalformedFont

-- gvar, if there is one, has `axes` axes
abbrev pub HasAxes : Option Gvar → ℕ → Type 0
HasAxes gvar axes = IfSome gvar (λ t. axes ≡ t.axis_count)

-- ---- a glyph

-- the offset of loca with this number
abbrev pub offset : Source → ℕ → Option ℕ
offset s g = loca_offset s.loca s.long g

-- the description of a glyph: the bytes between its offset and the next
unfoldable pub description : Source → ℕ → Option (List ℕ)
description s g = do
  from ← offset s g
  to ← offset s (g + 1)
  between_offsets s.glyf from to

-- the metric of a glyph
unfoldable pub metric : Source → ℕ → Option LongHorMetric
metric s g = metric_in s.hmtx s.number_of_h_metrics g
