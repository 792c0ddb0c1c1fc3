-- The tables of the static font (OpenType, "head", "hhea", "hmtx", "maxp", "name" and "post").
use Rattle.std.specs.Prelude.{ℕ, List, [], ◌∷◌, ◌++◌, length, take, drop, slice_range, codes, Option, Some, None}
use Rattle.std.specs.Prelude.{Result}
use Rattle.std.specs.Int.{w16, to_be_bytes}
use Rattle.subsetter_base.specs.declared.error.Error.{Error}
use Rattle.subsetter_sfnt.specs.Fields.Hhea.{hhea_with}
use Rattle.subsetter_sfnt.specs.Fields.Hmtx.{hmtx_bytes}
use Rattle.subsetter_sfnt.specs.Laying.Rows.{FontTables, rows, present, tags}
use Rattle.subsetter_sfnt.specs.Laying.Written.{Table, kind_word}
use Rattle.subsetter_sfnt.specs.Plain.{file_of}
use Rattle.subsetter_sfnt.specs.declared.flavor.FontFlavor.TheVariants.{Cff}
use Rattle.subsetter_sfnt.specs.declared.fields.hmtx.LongHorMetric.{LongHorMetric}
use Rattle.subsetter_instance.specs.Tables.Lines.{Lines, with_lines}
use Rattle.subsetter_instance.specs.declared.tables.extremes.Extents.{Extents}
use Rattle.subsetter_instance.specs.Tables.Extremes.{box_bytes, side_bytes}
use Rattle.subsetter_cff_at.specs.Boxes.{table_boxes}
use Rattle.subsetter_cff_instance.specs.Boxes.{all_extents, drawn_metrics}
use Rattle.subsetter_cff_instance.specs.Metrics.{metrics_by_glyph, filled, widest}
use Rattle.subsetter_cff_instance.specs.Source.{Source}

-- each glyph has a pair
abbrev pub hmtx_of : List (Option LongHorMetric) → List ℕ
hmtx_of all = hmtx_bytes (length all) (filled all)

-- advanceWidthMax is that of the glyphs that were asked for, minLeftSideBearing, minRightSideBearing and xMaxExtent are
-- those of what they draw, and numberOfHMetrics is the number of glyphs
abbrev pub extreme_bytes : List LongHorMetric → Option Extents → List ℕ
extreme_bytes metrics extents = to_be_bytes w16 (widest metrics) ++ side_bytes extents

abbrev pub hhea_bytes : ℕ → List LongHorMetric → Option Extents → List ℕ → List ℕ
hhea_bytes n metrics extents hhea = hhea_with (extreme_bytes metrics extents) n hhea

-- checksumAdjustment is 0 until the file is laid out; xMin, yMin, xMax and yMax are those of what is drawn
abbrev pub head_bytes : Option Extents → List ℕ → List ℕ
head_bytes extents head =
    take 8 head ++ (0 ∷ 0 ∷ 0 ∷ 0 ∷ []) ++ (slice_range head 12 36 ++ box_bytes extents ++ drop 44 head)

-- the tables: name and post as they are found
abbrev pub tables : (List ℕ → Option (List ℕ)) → List ℕ → List ℕ → List ℕ → List ℕ → List ℕ → FontTables
tables find cff head hhea hmtx maxp = record {
  cff = Some cff;
  cvt = None;
  fpgm = None;
  glyf = None;
  head = Some head;
  hhea = Some hhea;
  hmtx = Some hmtx;
  loca = None;
  maxp = Some maxp;
  name = find (codes "name");
  post = find (codes "post");
  prep = None;
}

-- their tags; name and post where the font has them
abbrev pub tags_with : (List ℕ → Option (List ℕ)) → List (List ℕ)
tags_with find = tags (present (rows (tables find [] [] [] [] [])))

-- those of a font at a location, with this `CFF `: bearings, extremes and box are those of its charstrings
abbrev pub new_tables : (List ℕ → Option (List ℕ)) → Source → Lines → List ℕ → List LongHorMetric → List ℕ → List Table
new_tables find s lines glyphs metrics cff =
    let all = metrics_by_glyph glyphs metrics s.count in
    let boxes = table_boxes cff in
    let extents = all_extents all boxes in
    present (rows (tables (with_lines find lines) cff (head_bytes extents s.head)
    (hhea_bytes s.count metrics extents lines.hhea) (hmtx_of (drawn_metrics all boxes)) s.maxp))

-- the file, unless the length of the `CFF ` passes 32 bits
unfoldable pub laid : (List ℕ → Option (List ℕ)) → Source → Lines → List ℕ → List LongHorMetric → List ℕ
    → Result (List ℕ) Error
laid find s lines glyphs metrics cff = file_of (kind_word Cff) (new_tables find s lines glyphs metrics cff)
