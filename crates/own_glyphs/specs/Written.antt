-- The tables with further glyphs after those that they have (OpenType, "glyf", "loca", "head", "maxp", "hhea" and
-- "hmtx").
use Rattle.std.specs.Prelude.{◌<◌, ◌^◌, ℕ, ◌+◌, Bool, ◌||◌, List, [], ◌∷◌, ◌++◌, length, map, codes, Option, Some, None}
use Rattle.std.specs.Prelude.{nat_lt}
use Rattle.std.specs.List.{AllByRecursion, flat_map}
use Rattle.std.specs.Int.{w16, cast_unsigned}
use Rattle.subsetter_points.specs.declared.bounds.Bounds.{Bounds}
use Rattle.subsetter_sfnt.specs.Fields.Hmtx.{hmtx_bytes}
use Rattle.subsetter_sfnt.specs.Fields.Loca.{loca_bytes}
use Rattle.subsetter_sfnt.specs.Laying.Rows.{FontTables, present, rows}
use Rattle.subsetter_sfnt.specs.Laying.Written.{Table}
use Rattle.subsetter_sfnt.specs.declared.fields.hmtx.LongHorMetric.{LongHorMetric}
use Rattle.subsetter.specs.Common.Head.Written.{head_bytes}
use Rattle.subsetter.specs.Common.Hmtx.Written.{hhea_bytes}
use Rattle.subsetter.specs.Glyf.Parts.{parts_bytes}
use Rattle.own_glyphs.specs.declared.glyph.OwnGlyph.{OwnGlyph}
use Rattle.own_glyphs.specs.Composite.{own_parts}
use Rattle.own_glyphs.specs.Source.{Source}

-- a further glyph: its outline, and its metric
pub record Further : Type 0 where
  pub outline : List ℕ
  pub metric : LongHorMetric

-- an own glyph: its left side bearing is the least x, so that no reader moves it
abbrev pub drawn_in : OwnGlyph → Bounds → Further
drawn_in o b =
    record {
      outline = parts_bytes (own_parts o.parts.now b);
      metric = record { advance_width = o.advance; lsb = cast_unsigned w16 b.x_min };
    }

-- own glyphs, each in its box
abbrev pub further : List OwnGlyph → List Bounds → List Further
further [] bs = []
further (o ∷ own) [] = []
further (o ∷ own) (b ∷ bs) = drawn_in o b ∷ further own bs

-- the numbers of a metric have 16 bits
abbrev pub IsSmall : Further → Type 0
IsSmall f = (f.metric.advance_width < 2 ^ 16) × (f.metric.lsb < 2 ^ 16)

abbrev pub AreSmall : List Further → Type 0
AreSmall more = AllByRecursion IsSmall more

abbrev pub outlines : List Further → List ℕ
outlines more = flat_map (λ (f : Further). f.outline) more

-- their outlines end glyf
abbrev pub glyf_with : Source → List Further → List ℕ
glyf_with s more = s.glyf ++ outlines more

-- where each of them ends, from a place on
abbrev pub ends_from : ℕ → List Further → List ℕ
ends_from at [] = []
ends_from at (f ∷ more) = (at + length f.outline) ∷ ends_from (at + length f.outline) more

-- offsets are long where they were, or where half of the last one doesn't fit 16 bits
abbrev pub is_longer : Bool → List ℕ → Bool
is_longer long glyf = long || nat_lt 131070 (length glyf)

abbrev pub is_long : Source → List Further → Bool
is_long s more = is_longer s.long (glyf_with s more)

abbrev pub offsets_with : Source → List ℕ → List Further → List ℕ
offsets_with s offsets more = offsets ++ ends_from (length s.glyf) more

abbrev pub metrics_with : List LongHorMetric → List Further → List LongHorMetric
metrics_with metrics more = metrics ++ map (λ (f : Further). f.metric) more

-- the tables of n glyphs, each with a longHorMetric in hmtx; the other tables of a subset stay
abbrev pub tables_by : (List ℕ → Option (List ℕ)) → Source → List ℕ → List ℕ → List LongHorMetric → List ℕ → ℕ
    → FontTables
tables_by find s glyf offsets metrics maxp n = record {
  cff = None;
  cvt = find (codes "cvt ");
  fpgm = find (codes "fpgm");
  glyf = Some glyf;
  head = Some (head_bytes (is_longer s.long glyf) s.head);
  hhea = Some (hhea_bytes n s.hhea);
  hmtx = Some (hmtx_bytes n metrics);
  loca = Some (loca_bytes (is_longer s.long glyf) offsets);
  maxp = Some maxp;
  name = find (codes "name");
  post = find (codes "post");
  prep = find (codes "prep");
}

abbrev pub tables_with : (List ℕ → Option (List ℕ)) → Source → List ℕ → List LongHorMetric → List ℕ → List Further
    → FontTables
tables_with find s offsets metrics maxp more =
    tables_by find s (glyf_with s more) (offsets_with s offsets more)
    (metrics_with metrics more) maxp (s.count + length more)

-- they are laid out, in ascending order of their tags
abbrev pub laid_with : (List ℕ → Option (List ℕ)) → Source → List ℕ → List LongHorMetric → List ℕ → List Further
    → List Table
laid_with find s offsets metrics maxp more = present (rows (tables_with find s offsets metrics maxp more))
